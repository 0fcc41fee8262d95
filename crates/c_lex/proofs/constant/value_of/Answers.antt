use Rattle.std.proofs.Common.{arith, ◌^◌}
use Rattle.c_lex.proofs.Digits.{at_end, not_below, too_much}
use Rattle.c_lex.proofs.constant.value_of.Goals as goal

pub returns-in-None : goal.returns-in-None
returns-in-None c = λ small. omega (
  arith,
  small,
  too_much c.args.base _ _ _ (2 ^ 64) _ 0 c.loop-digit-test.true c.loop-digit.invariant.value (not_below _ _ c.in-None.ensures),
)

pub returns : goal.returns
returns c =
    let is = at_end c.args.base _ _ _ _ c.loop-digit-test.false c.loop-digit.invariant.value in
    (omega (arith, is, c.loop-digit.invariant.small), is)
