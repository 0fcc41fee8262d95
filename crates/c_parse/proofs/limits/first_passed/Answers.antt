use Rattle.std.proofs.Common.{arith}
use Rattle.c_parse.proofs.LimitsLaws.{found_passed, none_passed}
use Rattle.c_parse.proofs.limits.first_passed.Goals as goal

pub returns-in-Some : goal.returns-in-Some
returns-in-Some c =
    found_passed c.args.tokens.now c.loop-token.token-index c.loop-token.brackets c.loop-token.row _ _ _ c.token-item.result c.loop-token-test.true c.token-item.is c.loop-token.invariant.same c.with_bracket-brackets.ensures c.in_row-row.ensures c.in-Some.ensures

pub returns : goal.returns
returns c = none_passed c.args.tokens.now c.loop-token.token-index c.loop-token.brackets c.loop-token.row (omega arith) c.loop-token.invariant.same
