use Rattle.std.proofs.Common.{sym}
use Rattle.std.proofs.lemmas.Result.{err_from_is_err_and}
use Rattle.fql_read.proofs.Loops.{kind_fails, close_fails, kinds_end, kinds_go_on, kinds_run_out}
use Rattle.fql_read.proofs.kinds.kinds_up_to_close.Goals as goal

pub returns-in_err-kind : goal.returns-in_err-kind
returns-in_err-kind c =
    let p = err_from_is_err_and c.from_residual.result c.from_residual.ensures.1 in
    rw (p.1, p.2) (kind_fails c.loop.list _ c.loop.counter c.loop.rest.now _ c.loop.invariant _ c.loop-test.true c.in_err-kind.ensures)

pub returns-in_err-after : goal.returns-in_err-after
returns-in_err-after c =
    let p = err_from_is_err_and c.from_residual-in_err-after.result c.from_residual-in_err-after.ensures.1 in
    rw (p.1, p.2) (close_fails c.loop.list _ c.loop.counter c.loop.rest.now _ c.loop.invariant _ c.in_ok-kind.kind _ c.loop-test.true c.in_ok-kind.ensures (sym c.if-not-starts_with.ensures) c.in_err-after.ensures)

pub returns-then-not-starts_with : goal.returns-then-not-starts_with
returns-then-not-starts_with c =
    rw c.in_ok-push.ensures.ok (kinds_end c.loop.list _ c.loop.counter c.loop.rest.now _ c.loop.invariant c.in_ok-kind.kind _ _ c.loop-test.true c.in_ok-kind.ensures (sym c.if-not-starts_with.ensures) c.in_ok-after.ensures)

pub loop-preserved : goal.loop-preserved
loop-preserved c =
    rw (c.in_ok-push.ensures.ok, c.others-rest.ensures) (kinds_go_on c.loop.list _ c.loop.counter c.loop.rest.now _ c.loop.invariant c.in_ok-kind.kind _ c.loop-test.true c.in_ok-kind.ensures (sym c.if-not-starts_with.ensures))

pub returns : goal.returns
returns c = kinds_run_out c.loop.list _ c.loop.counter c.loop.rest.now _ c.loop.invariant c.loop-test.false
