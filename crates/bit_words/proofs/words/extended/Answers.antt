use Rattle.std.proofs.Common.{arith}
use Rattle.c_values.proofs.Bits.{width_below}
use Rattle.bit_words.proofs.Results.{extended_word}
use Rattle.bit_words.proofs.Values.{extended_more, extended_all}
use Rattle.bit_words.proofs.words.extended.Goals as goal

pub loop-i-preserved : goal.loop-i-preserved
loop-i-preserved c = extended_more c.loop-i.invariant (omega arith) (omega arith) (width_below c.args.kind c.requires)

pub returns-clause-word : goal.returns-clause-word
returns-clause-word c = λ gates h. extended_word gates c.args.kind c.args.word.now _ c.requires (c.loop-i.invariant.wires gates h (c.extension-top.ensures.wire gates h)) (λ w. extended_all c.args.kind c.loop-i.invariant (omega arith) c.requires gates w (c.extension-top.ensures.value gates w))

pub returns-clause-value : goal.returns-clause-value
returns-clause-value c = λ gates w. extended_all c.args.kind c.loop-i.invariant (omega arith) c.requires gates w (c.extension-top.ensures.value gates w)
