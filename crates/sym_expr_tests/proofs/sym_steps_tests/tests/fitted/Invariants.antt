use Rattle.std.specs.Prelude.{All}
use Rattle.circuit.specs.Wires.{IsWire}
use Rattle.sym_expr_tests.proofs.sym_steps_tests.tests.fitted.Given as goal

abbrev pub invariant-loop-at : goal.invariant-loop-at
invariant-loop-at l = All (All (IsWire l.circuit)) l.fitted.items
