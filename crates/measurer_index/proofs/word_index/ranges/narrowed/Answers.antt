use Rattle.std.proofs.Common.{refl, arith}
use Rattle.measurer_index.proofs.word_index.Keys.{narrowed_is}
use Rattle.measurer_index.proofs.word_index.ranges.narrowed.Goals as goal

pub returns : goal.returns
returns c =
    narrowed_is _ _ _ _ c.requires _ _ _ c.letter_key-key.ensures.key c.first_from-low.ensures.from c.first_from-low.ensures.to c.first_from-low.ensures.below c.first_from-low.ensures.above
    c.first_from-high.ensures.from c.first_from-high.ensures.to c.first_from-high.ensures.below c.first_from-high.ensures.above _ refl (omega arith)
