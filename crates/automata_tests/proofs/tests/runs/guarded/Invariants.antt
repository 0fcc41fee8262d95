use Rattle.std.proofs.Common.{◌≡◌, ◌+◌, ◌*◌, ◌≤◌, length, true}
use Rattle.circuit.specs.Truth.{Extends}
use Rattle.circuit.specs.Wires.{IsWire, lit_holds}
use Rattle.automata.specs.Standing.{IsReach}
use Rattle.automata_tests.proofs.tests.runs.guarded.Given as goal

abbrev pub invariant-loop-step : goal.invariant-loop-step
invariant-loop-step l = record {
  older : Extends IsWire lit_holds l.fn.circuit l.circuit;
  reach : IsReach IsWire lit_holds true l.circuit l.nfa l.reach;
  used : length l.circuit ≤ 1000 + 100000 * (l.step-index + 1);
}
