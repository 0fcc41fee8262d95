use Rattle.bit_words.proofs.Values.{converted_word}
use Rattle.bit_words.proofs.words.convert.Goals as goal

pub returns-clause-word : goal.returns-clause-word
returns-clause-word c = (converted_word c.args.from c.args.to c.args.word.now c.extended.result c.requires (λ gates h. (c.extended.ensures.word gates h).wires) c.extended.ensures.value).word

pub returns-clause-value : goal.returns-clause-value
returns-clause-value c = (converted_word c.args.from c.args.to c.args.word.now c.extended.result c.requires (λ gates h. (c.extended.ensures.word gates h).wires) c.extended.ensures.value).value
