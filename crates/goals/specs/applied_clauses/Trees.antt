-- Clauses whose filters have been applied, as plain data.
use Rattle.std.specs.Prelude.{ℕ, List, Option}
use Rattle.goals.specs.declared.applied_clauses.applied_tree.AppliedTree.{AppliedTree, fold-AppliedTree}
use Rattle.goals.specs.declared.applied_clauses.applied_tree.AppliedTree.TheOpen.{AppliedTree-F}

-- An expression of a clause: `NODES`, `EDGES` and `PATHS` with the nodes, the edges and the paths that they stand for, and
-- with the predicates by which PRED tells states apart, the innermost first.
pub data Tree : Type 0 where
  nodes : List ℕ → List ℕ → Tree
  edges : List ℕ → List ℕ → Tree
  paths : List (List ℕ) → Tree
  predicate : ℕ → Tree
  quoted : Tree → List ℕ → Tree
  dot : Tree → Tree → Tree
  plus : Tree → Tree → Tree
  repeat : Tree → ℕ → Option ℕ → Tree

abbrev pub tree_step : AppliedTree-F Tree → Tree
tree_step (AppliedTree-F.Nodes ns is) = nodes ns is
tree_step (AppliedTree-F.Edges es is) = edges es is
tree_step (AppliedTree-F.Paths ps) = paths ps
tree_step (AppliedTree-F.Predicate i) = predicate i
tree_step (AppliedTree-F.Quoted body text) = quoted body text
tree_step (AppliedTree-F.Dot a b) = dot a b
tree_step (AppliedTree-F.Plus a b) = plus a b
tree_step (AppliedTree-F.Repeat body least most) = repeat body least most

-- the clause as plain data
unfoldable pub tree_of : AppliedTree → Tree
tree_of = fold-AppliedTree Tree tree_step
