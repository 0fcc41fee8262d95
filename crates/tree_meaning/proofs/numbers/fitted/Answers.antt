use Rattle.std.proofs.Common.{◌∙◌}
use Rattle.tree_meaning.proofs.Words.{word_value, word_number}
use Rattle.tree_meaning.proofs.numbers.fitted.Goals as goal

pub convert-requires-clause-operand : goal.convert-requires-clause-operand
convert-requires-clause-operand c = word_value c.args.word c.ranges.word.fits

pub returns-clause-value : goal.returns-clause-value
returns-clause-value c = c.convert.ensures.value ∙ word_number c.args.kind c.args.word
