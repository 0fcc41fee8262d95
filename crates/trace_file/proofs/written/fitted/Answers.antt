use Rattle.std.proofs.Common.{◌∙◌}
use Rattle.c_meaning.proofs.Patterns.{word_value, word_number}
use Rattle.trace_file.proofs.written.fitted.Goals as goal

pub convert-requires-clause-operand : goal.convert-requires-clause-operand
convert-requires-clause-operand c = word_value c.args.word c.ranges.word.fits

pub returns : goal.returns
returns c = c.convert.ensures.value ∙ word_number c.args.kind c.args.word
