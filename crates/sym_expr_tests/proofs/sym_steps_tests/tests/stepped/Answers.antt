use Rattle.std.proofs.Common.{arith}
use Rattle.unwinder_reach.specs.unwinding_size.Capped.{capped}
use Rattle.sym_expr_tests.proofs.sym_steps_tests.tests.stepped.Goals as goal

pub step-requires-clause-room : goal.step-requires-clause-room
unfolding capped
step-requires-clause-room c =
    let weighs = c.requires.weights c.args.state.node in
    let found = c.in-Some.ensures.lookup in
    omega (arith, weighs, found.1)
