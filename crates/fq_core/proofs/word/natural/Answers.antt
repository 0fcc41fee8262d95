use Rattle.std.proofs.Common.{arith, ◌^◌}
use Rattle.fq_core.proofs.Digits.{at_end, too_much}
use Rattle.fq_core.proofs.word.natural.Goals as goal

pub returns-in-None : goal.returns-in-None
returns-in-None c = λ small. omega (
  arith,
  small,
  too_much _ _ _ (2 ^ 64) _ 0 c.loop-digit-test.true c.loop-digit.invariant.value (omega arith),
)

pub returns : goal.returns
returns c =
    let is = at_end _ _ _ _ c.loop-digit-test.false c.loop-digit.invariant.value in
    (omega (arith, is, c.loop-digit.invariant.small), is)
