use Rattle.measurer_index.specs.declared.gap_words.piece.Piece.TheVariants.{Edge}
use Rattle.measurer_index.proofs.gap_words.Going.{at_next, at_none, letter_at}
use Rattle.measurer_index.proofs.gap_words.steps.end_of.Goals as goal

pub step-requires-clause-letter : goal.step-requires-clause-letter
step-requires-clause-letter c = letter_at c.args.part.now c.requires.letters c.loop-piece.piece-index (Edge 0) c.loop-piece-test.true

pub returns-in-None : goal.returns-in-None
returns-in-None c = at_none c.args.path.now c.args.part.now c.args.start c.loop-piece.piece-index c.loop-piece.at (Edge 0) c.loop-piece-test.true c.in-None.ensures c.loop-piece.invariant.at

pub loop-piece-preserved : goal.loop-piece-preserved
loop-piece-preserved c =
    let letter = letter_at c.args.part.now c.requires.letters c.loop-piece.piece-index (Edge 0) c.loop-piece-test.true in
    record {
      within = c.in-Some.ensures.0;
      at = at_next c.args.path.now c.args.part.now c.args.start c.loop-piece.piece-index c.loop-piece.at c.in-Some.next (Edge 0) c.loop-piece-test.true letter c.in-Some.ensures.1 c.loop-piece.invariant.at;
    }
