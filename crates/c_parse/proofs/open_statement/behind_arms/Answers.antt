use Rattle.std.proofs.Common.{◌≡◌, Some, sym}
use Rattle.std.proofs.lemmas.Result.{err_from_is_err_and}
use Rattle.c_parse.specs.Reading.{tail}
use Rattle.c_parse.specs.ReadingStatements.{test_at}
use Rattle.c_parse.proofs.OpenStatements.{else_if_by_parts, else_if_fails, else_if_shorter}
use Rattle.c_parse.proofs.open_statement.behind_arms.Goals as goal

pub returns-in_err-test-clause-same : goal.returns-in_err-test-clause-same
returns-in_err-test-clause-same c =
    let p = err_from_is_err_and c.from_residual-in_err-test.result c.from_residual-in_err-test.ensures.1 in
    rw (p.1, p.2) (else_if_fails _ c.args.span c.args.arms c.args.tokens.now (sym c.if-not-starts_with.ensures) (rw (← c.tail-behind.ensures) (sym c.if-not-starts_with-2.ensures)) (rw (← c.tail-behind.ensures, ← c.tail.ensures) c.in_err-test.ensures))

pub returns-clause-same : goal.returns-clause-same
returns-clause-same c =
    let tested : test_at (tail (tail c.args.tokens.now)) ≡ Some (c.in_ok-test.test, c.in_ok-test.rest.now) = rw (← c.tail-behind.ensures, ← c.tail.ensures) c.in_ok-test.ensures in
    rw c.into_inner.ensures (else_if_by_parts c.args.span c.args.arms c.args.tokens.now c.in_ok-test.rest.now c.in_ok-test.test (sym c.if-not-starts_with.ensures) (rw (← c.tail-behind.ensures) (sym c.if-not-starts_with-2.ensures)) tested)

pub returns-clause-shorter : goal.returns-clause-shorter
returns-clause-shorter c =
    let tested : test_at (tail (tail c.args.tokens.now)) ≡ Some (c.in_ok-test.test, c.in_ok-test.rest.now) = rw (← c.tail-behind.ensures, ← c.tail.ensures) c.in_ok-test.ensures in
    else_if_shorter c.args.tokens.now c.in_ok-test.rest.now c.in_ok-test.test (sym c.if-not-starts_with.ensures) tested
