use Rattle.std.proofs.Common.{arith}
use Rattle.fql_tokens.proofs.Digits.{digit_at, one_more, fits}
use Rattle.fql_tokens.proofs.first.value_of.Goals as goal

pub overflow_mul-value : goal.overflow_mul-value
overflow_mul-value c =
    let i = c.loop-digit.digit-index in
    let few = c.requires.few in
    omega (arith, one_more c.loop-digit.digit-index c.loop-digit.value 9 (omega arith) c.loop-digit.invariant.small (omega arith), fits c.loop-digit.digit-index (omega arith))

pub overflow_add-value : goal.overflow_add-value
overflow_add-value c =
    let digit = digit_at c.args.digits.now c.loop-digit.digit-index 0 c.loop-digit-test.true c.loop-digit.invariant.digits in
    omega (arith, digit.0, digit.1, one_more c.loop-digit.digit-index c.loop-digit.value 9 (omega arith) c.loop-digit.invariant.small (omega arith), fits c.loop-digit.digit-index (omega arith))
