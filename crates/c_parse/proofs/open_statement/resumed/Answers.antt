use Rattle.std.proofs.Common.{arith}
use Rattle.c_parse.proofs.OpenStatements.{do_takes_end}
use Rattle.c_parse.proofs.open_statement.resumed.Goals as goal

pub returns-in-Do-clause-shorter : goal.returns-in-Do-clause-shorter
returns-in-Do-clause-shorter c = omega (arith, do_takes_end c.args.outer.span c.args.body c.in_ok-whole-in-Do.whole c.args.tokens.now c.in_ok-whole-in-Do.rest.now c.in_ok-whole-in-Do.ensures)

pub returns-in-Arm-clause-same : goal.returns-in-Arm-clause-same
returns-in-Arm-clause-same c =
    let h = c.behind_arms.ensures.same in
    rw c.in-Arm.is (rw (c.in_ok-push-in-Arm.ensures.ok, c.into_inner.ensures) at h)
