use Rattle.input_text.proofs.LineLaws.{word_missing}
use Rattle.input_text.proofs.lines.words.Goals as goal

pub returns-in_default : goal.returns-in_default
returns-in_default c =
    word_missing _ _ _ _ _ _ c.loop-text-test.true c.word_of.ensures c.in_default.not-Number c.loop-text.invariant
