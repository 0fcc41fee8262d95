-- What follows the passes of each `for` of a unit is an assignment or a call.
use Rattle.std.specs.Prelude.{List, map, IsTrue}
use Rattle.std.specs.List.{AllByRecursion}
use Rattle.c_parse.specs.declared.sign.Terminal.{Terminal}
use Rattle.c_parse.specs.declared.unit.Item.{Item}
use Rattle.c_parse.specs.Items.{DerivesItems}
use Rattle.c_typed_trees.specs.declared.unit.TypedFunction.{TypedFunction}
use Rattle.c_types.specs.Units.{typed_of}
use Rattle.tree_meaning_laws.specs.statement_laws.Steps.{stepping, all_steps}

-- what follows the passes of each `for` of a function is an assignment or a call
abbrev pub HasSteps : TypedFunction → Type 0
HasSteps f = IsTrue (all_steps (map stepping f.body))

-- So it is in each function of a unit that the syntax has.
abbrev pub UnitsHaveSteps : Type 0
UnitsHaveSteps = (items : List Item) (ts : List Terminal) → DerivesItems items ts → AllByRecursion HasSteps (typed_of items).functions
