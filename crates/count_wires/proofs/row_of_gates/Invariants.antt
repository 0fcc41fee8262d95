use Rattle.std.proofs.Common.{◌≤◌, ◌+◌, ◌*◌, length}
use Rattle.circuit.specs.Wires.{IsWire}
use Rattle.count_wires.proofs.row_of_gates.Given as goal

abbrev pub invariant-loop : goal.invariant-loop
invariant-loop l = record {
  bit : IsWire l.circuit l.last;
  other : IsWire l.circuit l.other;
  used : length l.circuit ≤ 2 + 2 * l.counter;
}
