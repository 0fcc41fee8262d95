use Rattle.std.specs.Prelude.{All}
use Rattle.circuit.specs.Wires.{IsWire}
use Rattle.sym_expr.specs.sym_steps.Steps.{AreStates}
use Rattle.sym_expr_tests.proofs.sym_steps_tests.tests.run_in.Given as goal

abbrev pub invariant-loop-taken : goal.invariant-loop-taken
invariant-loop-taken l = AreStates l.graph l.circuit l.state × All (All (IsWire l.circuit)) l.state.store.cells × All (All (IsWire l.circuit)) l.answers
