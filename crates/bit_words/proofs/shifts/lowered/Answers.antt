use Rattle.std.proofs.Common.{arith}
use Rattle.bit_words.proofs.ShiftLemmas.{lowered_none, lowered_more}
use Rattle.bit_words.proofs.shifts.lowered.Goals as goal

pub loop-i-init : goal.loop-i-init
loop-i-init c = lowered_none c.args.word.now c.args.by c.args.kind.signed c.blank-bits.result (omega arith) c.blank-bits.ensures.wires

pub loop-i-preserved : goal.loop-i-preserved
loop-i-preserved c = lowered_more c.bit_above.result c.loop-i.invariant (omega arith) c.bit_above.ensures.wire c.bit_above.ensures.low c.bit_above.ensures.high

pub returns-clause-low : goal.returns-clause-low
returns-clause-low c = λ gates w k lt. c.loop-i.invariant.low gates w k (omega arith) lt

pub returns-clause-high : goal.returns-clause-high
returns-clause-high c = λ gates w k le lt. c.loop-i.invariant.high gates w k (omega arith) le
