use Rattle.std.proofs.Common.{◌≡◌, drop}
use Rattle.std.specs.List.{fold}
use Rattle.c_types.specs.Units.{with_input, no_inputs}
use Rattle.c_types.proofs.program.inputs_among.Given as goal

abbrev pub invariant-loop-item : goal.invariant-loop-item
invariant-loop-item l = fold (with_input l.defined) l.inputs (drop l.item-index l.items) ≡ fold (with_input l.defined) no_inputs l.items
