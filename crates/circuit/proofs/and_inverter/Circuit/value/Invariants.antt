use Rattle.std.proofs.Common.{◌≡◌, take}
use Rattle.circuit.specs.Wires.{held}
use Rattle.circuit.proofs.and_inverter.Circuit.value.Given as goal

abbrev pub invariant-loop-gate : goal.invariant-loop-gate
invariant-loop-gate l = l.wires.items ≡ held (take l.gate-index l.gate-items) l.inputs
