use Rattle.std.proofs.Common.{◌≡◌, length}
use Rattle.measurer_index.proofs.gap_words.Begins.{AreTabled}
use Rattle.measurer_index.proofs.gap_words.path_places.all_begins.Given as goal

abbrev pub invariant-loop-set : goal.invariant-loop-set
invariant-loop-set l = record {
  size : length l.all ≡ l.set-index;
  tabled : AreTabled l.sets l.edges l.all l.set-index;
}
