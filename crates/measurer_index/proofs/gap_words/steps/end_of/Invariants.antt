use Rattle.std.proofs.Common.{◌≤◌, length}
use Rattle.measurer_index.proofs.gap_words.Going.{IsAt}
use Rattle.measurer_index.proofs.gap_words.steps.end_of.Given as goal

abbrev pub invariant-loop-piece : goal.invariant-loop-piece
invariant-loop-piece l = record {
  within : l.at ≤ length l.path.edges;
  at : IsAt l.path l.part l.start l.piece-index l.at;
}
