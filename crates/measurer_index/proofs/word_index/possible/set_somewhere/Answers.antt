use Rattle.measurer_index.proofs.word_index.Picked.{somewhere_more}
use Rattle.measurer_index.proofs.word_index.possible.set_somewhere.Goals as goal

pub loop-mask-preserved : goal.loop-mask-preserved
loop-mask-preserved c = somewhere_more c.args.masks.now c.loop-mask.mask-index c.loop-mask.somewhere c.loop-mask.invariant
