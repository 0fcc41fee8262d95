use Rattle.std.proofs.Common.{arith}
use Rattle.unwinder.proofs.input_words.GateLemmas.{alone_length, fresh_more, fresh_none}
use Rattle.unwinder.proofs.input_words.words.fresh_bits.Goals as goal

pub loop-i-init : goal.loop-i-init
loop-i-init c = fresh_none c.args.circuit.now c.requires.inputs

pub input-requires : goal.input-requires
input-requires c = let long = alone_length _ _ c.loop-i.invariant.alone in record { room = omega arith }

pub loop-i-preserved : goal.loop-i-preserved
loop-i-preserved c = fresh_more c.in_ok-bits.field-0 c.loop-i.invariant (omega arith) c.in_ok-bits.ensures.gates c.in_ok-bits.ensures.literal
