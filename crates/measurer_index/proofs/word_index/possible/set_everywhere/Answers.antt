use Rattle.measurer_index.proofs.word_index.Picked.{everywhere_more}
use Rattle.measurer_index.proofs.word_index.possible.set_everywhere.Goals as goal

pub loop-mask-preserved : goal.loop-mask-preserved
loop-mask-preserved c = everywhere_more c.args.masks.now c.loop-mask.mask-index c.loop-mask.everywhere c.loop-mask.invariant
