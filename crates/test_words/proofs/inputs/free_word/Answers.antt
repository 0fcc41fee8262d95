use Rattle.std.proofs.Common.{arith}
use Rattle.test_words.proofs.FreeWords.{free_none, free_more}
use Rattle.test_words.proofs.inputs.free_word.Goals as goal

pub loop-i-init : goal.loop-i-init
loop-i-init c = free_none c.args.circuit.now _ (omega arith) (c.constant-bits.ensures.wires c.args.circuit.now)

pub loop-i-preserved : goal.loop-i-preserved
loop-i-preserved c = free_more _ c.loop-i.invariant c.input.ensures.older c.input.ensures.used c.in_ok-bits.ensures.bit
