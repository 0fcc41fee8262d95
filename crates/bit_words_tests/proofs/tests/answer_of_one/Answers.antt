use Rattle.bit_words_tests.proofs.tests.answer_of_one.Goals as goal

pub returns-in-Convert : goal.returns-in-Convert
returns-in-Convert c = (c.convert.ensures.word _ (c.extended-a.ensures.word _ c.requires.word)).wires
