use Rattle.std.proofs.Common.{arith}
use Rattle.bit_words.proofs.Steps.{grows_then, grows_within}
use Rattle.unwinder.proofs.Truths.{row_at, rows_weigh, truths_all, truths_more}
use Rattle.unwinder.proofs.telling.scoped_truths.Goals as goal

pub truth-requires-clause-room : goal.truth-requires-clause-room
truth-requires-clause-room c =
    let weight = rows_weigh c.args.scope c.args.rows.now c.loop-row.row-index c.deref.result.now (row_at c.args.rows.now c.loop-row.row-index c.row-item.result c.deref.result.now (omega arith) c.deref.ensures c.row-item.is) in
    let before = c.loop-row.invariant.grows in
    omega (arith, before.used, weight, c.requires.room)

pub returns-in_err-literal-clause-grows : goal.returns-in_err-literal-clause-grows
returns-in_err-literal-clause-grows c =
    let weight = rows_weigh c.args.scope c.args.rows.now c.loop-row.row-index c.deref.result.now (row_at c.args.rows.now c.loop-row.row-index c.row-item.result c.deref.result.now (omega arith) c.deref.ensures c.row-item.is) in
    grows_within _ (grows_then c.loop-row.invariant.grows c.truth.ensures.grows) (omega (arith, weight))

pub returns-in_err-push-clause-grows : goal.returns-in_err-push-clause-grows
returns-in_err-push-clause-grows c =
    let weight = rows_weigh c.args.scope c.args.rows.now c.loop-row.row-index c.deref.result.now (row_at c.args.rows.now c.loop-row.row-index c.row-item.result c.deref.result.now (omega arith) c.deref.ensures c.row-item.is) in
    grows_within _ (grows_then c.loop-row.invariant.grows c.truth.ensures.grows) (omega (arith, weight))

pub loop-row-preserved : goal.loop-row-preserved
loop-row-preserved c =
    let here = row_at c.args.rows.now c.loop-row.row-index c.row-item.result c.deref.result.now (omega arith) c.deref.ensures c.row-item.is in
    rw c.in_ok-push.ensures.ok (truths_more c.deref.result.now c.in_ok-literal.literal here c.requires.cells c.loop-row.invariant c.truth.ensures.grows c.in_ok-literal.ensures.wire c.in_ok-literal.ensures.value)

pub returns-clause-value : goal.returns-clause-value
returns-clause-value c = truths_all c.loop-row.invariant c.loop-row-test.false
