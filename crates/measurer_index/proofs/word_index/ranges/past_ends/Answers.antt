use Rattle.measurer_index.proofs.word_index.Keys.{past_is}
use Rattle.measurer_index.proofs.word_index.ranges.past_ends.Goals as goal

pub returns : goal.returns
returns c = past_is _ _ _ c.requires _ c.first_from.ensures.from c.first_from.ensures.to c.first_from.ensures.below c.first_from.ensures.above
