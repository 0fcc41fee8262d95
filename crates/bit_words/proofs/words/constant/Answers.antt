use Rattle.std.proofs.Common.{arith}
use Rattle.bit_words.proofs.Values.{constant_more, constant_all}
use Rattle.bit_words.proofs.words.constant.Goals as goal

pub loop-i-preserved : goal.loop-i-preserved
loop-i-preserved c = constant_more c.constant_bit.result c.loop-i.invariant (omega arith) c.constant_bit.ensures.wire c.constant_bit.ensures.value

pub returns-clause-value : goal.returns-clause-value
returns-clause-value c = constant_all c.loop-i.invariant (omega arith) (omega arith)
