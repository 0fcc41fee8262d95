use Rattle.std.proofs.Common.{◌≤◌, ◌+◌, ◌*◌, length}
use Rattle.circuit.specs.Wires.{IsWire}
use Rattle.circuit_tests.proofs.tests.long_chain.Given as goal

abbrev pub invariant-loop : goal.invariant-loop
invariant-loop g l = record {
  bit : IsWire l.circuit l.last;
  other : IsWire l.circuit l.other;
  used : length l.circuit ≤ 2 + 2 * l.counter;
}
