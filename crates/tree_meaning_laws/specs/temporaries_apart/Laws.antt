-- What follows from the typing rules for the cells of frames.
use Rattle.std.specs.Prelude.{ℕ, ◌+◌, ◌≤◌, List, length}
use Rattle.std.specs.List.{AllByRecursion}
use Rattle.c_parse.specs.declared.unit.Item.{Item}
use Rattle.c_typed_trees.specs.Fitting.{word_kinds}
use Rattle.c_typed_trees.specs.declared.unit.TypedFunction.{TypedFunction}
use Rattle.c_types.specs.Units.{typed_of}
use Rattle.tree_meaning_laws.specs.temporaries_apart.Named.{Ascend, IsBelow, body_named}

-- In a function's frame the cells of the result, of the parameters and of all variables lie below a cell. From there on,
-- and within the frame, lie the temporaries: each above the one before, so no two are the same.
pub record IsApart (f : TypedFunction) : Type 0 where
  pub locals : ℕ
  pub words : length (word_kinds f) + 1 ≤ locals
  pub parameters : AllByRecursion (IsBelow locals) f.parameters
  pub variables : AllByRecursion (IsBelow locals) (body_named f.body).variables
  pub temporaries : Ascend locals f.cells (body_named f.body).temporaries

-- So are the frames of every function that typing makes.
abbrev pub TemporariesAreApart : Type 0
TemporariesAreApart = (items : List Item) → AllByRecursion IsApart (typed_of items).functions
