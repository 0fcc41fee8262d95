use Rattle.std.proofs.Common.{◌+◌, ◌*◌, refl, arith}
use Rattle.goal_formula.proofs.Rooted.{answer_rows_more}
use Rattle.goal_formula.proofs.encoding.answer_rows.Goals as goal

pub loop-number-preserved : goal.loop-number-preserved
loop-number-preserved c =
    rw c.in_ok-push.ensures.ok
    (answer_rows_more c.args.bits.now c.args.from c.loop-number.number (c.args.from + 64 * c.loop-number.number) c.loop-number.rows c.in_ok-row.field-0 refl (omega (arith, c.requires, c.loop-number-test.true)) c.in_ok-row.ensures c.loop-number.invariant)
