use Rattle.std.proofs.Common.{◌*◌, arith}
use Rattle.bit_words.proofs.Steps.{grows_then, grows_within}
use Rattle.bit_words.proofs.SumLemmas.{sum_none, sum_more}
use Rattle.bit_words.proofs.sums.sum.Goals as goal

pub loop-i-init : goal.loop-i-init
loop-i-init c = sum_none c.args.circuit.now c.args.a.now c.args.b.now c.args.carry c.blank-bits.result (omega arith) (c.blank-bits.ensures.wires c.args.circuit.now) c.requires.carry (c.blank-bits.ensures.bits c.args.circuit.now)

pub returns-in_err-bit-clause-grows : goal.returns-in_err-bit-clause-grows
returns-in_err-bit-clause-grows c = grows_within (9 * c.args.width) (grows_then c.loop-i.invariant.grows c.full_sum.ensures.grows) (omega arith)

pub loop-i-preserved : goal.loop-i-preserved
loop-i-preserved c =
    sum_more c.in_ok-bit.bit c.in_ok-bit.next _ _ c.loop-i.invariant c.full_sum.ensures.grows (omega arith) (omega arith) (omega arith) c.requires.left c.requires.right
    c.in_ok-bit.ensures.wires.0 c.in_ok-bit.ensures.wires.1 c.in_ok-bit.ensures.sum c.in_ok-bit.ensures.next
