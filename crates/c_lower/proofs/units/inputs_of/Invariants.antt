use Rattle.std.proofs.Common.{◌≡◌, take}
use Rattle.c_lower.proofs.units.inputs_of.Given as goal

abbrev pub invariant-loop-input : goal.invariant-loop-input
invariant-loop-input l = l.copy ≡ take l.input-index l.inputs
