-- The names of filters that aren't in the graph.
use Rattle.std.specs.Prelude.{ℕ, Option, None}
use Rattle.cfa.specs.declared.parts.GraphParts.{GraphParts}
use Rattle.filters.specs.Names.{lesser, missing_name}
use Rattle.fql_read.specs.declared.cover.CoverTree.{CoverTree, fold-CoverTree}
use Rattle.fql_read.specs.declared.cover.CoverTree.TheOpen.{CoverTree-F}

module _ (parts : GraphParts) where
  abbrev pub missing_step : CoverTree-F (Option ℕ) → Option ℕ
  missing_step (CoverTree-F.Nodes s) = missing_name parts s.filter
  missing_step (CoverTree-F.Edges s) = missing_name parts s.filter
  missing_step (CoverTree-F.Paths f k) = missing_name parts f
  missing_step (CoverTree-F.Predicate i) = None
  missing_step (CoverTree-F.Quoted body text) = body
  missing_step (CoverTree-F.Dot a b) = lesser a b
  missing_step (CoverTree-F.Plus a b) = lesser a b
  missing_step (CoverTree-F.Arrow a b) = lesser a b
  missing_step (CoverTree-F.Repeat body least most column) = body

  -- the least column of a filter of a clause whose name isn't in the graph
  unfoldable pub missing_in : CoverTree → Option ℕ
  missing_in = fold-CoverTree (Option ℕ) missing_step
