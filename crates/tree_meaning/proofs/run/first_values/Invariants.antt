use Rattle.std.proofs.Common.{◌≡◌, take}
use Rattle.tree_meaning.proofs.Beginnings.{values_of}
use Rattle.tree_meaning.proofs.run.first_values.Given as goal

abbrev pub invariant-loop-global : goal.invariant-loop-global
invariant-loop-global l = l.cells.items ≡ values_of (take l.global-index l.typed.globals)
