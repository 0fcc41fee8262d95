use Rattle.std.proofs.Common.{get_or}
use Rattle.measurer_index.specs.declared.gap_words.piece.Piece.TheVariants.{Edge}
use Rattle.measurer_index.proofs.gap_words.Going.{more_letters, not_gap}
use Rattle.measurer_index.proofs.gap_words.parts.first_gap.Goals as goal

pub loop-place-preserved : goal.loop-place-preserved
loop-place-preserved c = more_letters c.args.word.now c.loop-place.place (Edge 0) c.loop-place-test.true (not_gap (get_or c.args.word.now c.loop-place.place (Edge 0)) c.in_default.not-Gap) c.loop-place.invariant
