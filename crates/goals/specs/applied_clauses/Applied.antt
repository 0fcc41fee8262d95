-- What the letters of a clause stand for in a control flow automaton (FQL: Holzer, Schallhart, Tautschnig, Veith, VMCAI
-- 2009 and ASE 2010).
use Rattle.std.specs.Prelude.{ℕ, Bool, List, [], length, Option, Some, None, codes}
use Rattle.std.specs.List.{filter, range_with_len}
use Rattle.cfa.specs.declared.parts.GraphParts.{GraphParts}
use Rattle.filters.specs.declared.target_graph.TargetGraph.{TargetGraph}
use Rattle.filters.specs.Kept.{kept_by}
use Rattle.filters.specs.Parts.{Part, whole}
use Rattle.fql_read.specs.declared.cover.CoverTree.{CoverTree, fold-CoverTree}
use Rattle.fql_read.specs.declared.cover.CoverTree.TheOpen.{CoverTree-F}
use Rattle.fql_read.specs.declared.filter.Filter.{Filter}
use Rattle.filters_paths.specs.Paths.{paths_of}
use Rattle.goals.specs.applied_clauses.Trees.{Tree, nodes, edges, paths, predicate, quoted, dot, plus, repeat}

-- the numbers below a bound that are there, in rising order
abbrev pub numbers : (ℕ → Bool) → ℕ → List ℕ
numbers is_there bound = filter is_there (range_with_len 0 bound)

-- the nodes and the edges of a part, in rising order
abbrev pub target_of : GraphParts → Part → TargetGraph
target_of parts a = record { nodes = numbers a.node (length parts.nodes); edges = numbers a.edge (length parts.edges) }

-- what `in` makes the base graph: what its filter keeps of the whole graph
abbrev pub base_of : GraphParts → Option Filter → Part
base_of parts None = whole parts
base_of parts (Some f) = kept_by parts f (whole parts)

module _ (parts : GraphParts) (base : Part) where
  -- what a filter keeps of the base graph
  abbrev pub kept : Filter → TargetGraph
  kept f = target_of parts (kept_by parts f base)

  -- `"ID*"`: any edges of the base graph, one after another
  abbrev pub anywhere : Tree
  anywhere = quoted (repeat (edges (target_of parts base).edges []) 0 None) (codes "ID*")

  -- each filter is one of the base graph, and `A -> B` stands for `A."ID*".B`
  abbrev pub applied_step : CoverTree-F Tree → Tree
  applied_step (CoverTree-F.Nodes s) = nodes (kept s.filter).nodes s.predicates
  applied_step (CoverTree-F.Edges s) = edges (kept s.filter).edges s.predicates
  applied_step (CoverTree-F.Paths f k) = paths (paths_of parts (kept f) k)
  applied_step (CoverTree-F.Predicate i) = predicate i
  applied_step (CoverTree-F.Quoted body text) = quoted body text
  applied_step (CoverTree-F.Dot a b) = dot a b
  applied_step (CoverTree-F.Plus a b) = plus a b
  applied_step (CoverTree-F.Arrow a b) = dot (dot a anywhere) b
  applied_step (CoverTree-F.Repeat body least most column) = repeat body least most

  unfoldable pub applied : CoverTree → Tree
  applied = fold-CoverTree Tree applied_step
