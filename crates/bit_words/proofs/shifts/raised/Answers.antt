use Rattle.std.proofs.Common.{arith}
use Rattle.bit_words.proofs.ShiftLemmas.{raised_none, raised_more}
use Rattle.bit_words.proofs.shifts.raised.Goals as goal

pub loop-i-init : goal.loop-i-init
loop-i-init c = raised_none c.args.word.now c.args.by c.blank-bits.result (omega arith) c.blank-bits.ensures.wires c.blank-bits.ensures.bits

pub loop-i-preserved : goal.loop-i-preserved
loop-i-preserved c = raised_more _ c.loop-i.invariant (omega arith) (omega arith) (omega arith)

pub returns-clause-high : goal.returns-clause-high
returns-clause-high c = λ gates w k le lt. c.loop-i.invariant.high gates w k le (omega arith)
