use Rattle.circuit.specs.Bits.{bits_stay}
use Rattle.test_words.proofs.readings.compared.Goals as goal

pub equal-requires-clause-left : goal.equal-requires-clause-left
equal-requires-clause-left c = c.extended-word.ensures.word _ (bits_stay c.args.word.now c.free_word.ensures.older c.requires.word)
