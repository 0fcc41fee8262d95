use Rattle.std.proofs.Common.{length}
use Rattle.unwinder.proofs.input_words.WordLemmas.{input_word_is}
use Rattle.unwinder.proofs.input_words.words.input_word.Goals as goal

pub returns-clause-word : goal.returns-clause-word
returns-clause-word c = input_word_is (length c.args.circuit.now) c.args.kind c.in_ok-bits.bits c.extended.result c.requires.kind c.in_ok-bits.ensures.bits c.extended.ensures.own c.extended.ensures.word c.extended.ensures.value
