use Rattle.std.proofs.Common.{◌≤◌, ◌+◌, ◌-◌, length}
use Rattle.measurer_index.proofs.gap_words.Starts.{IsNoneBefore}
use Rattle.measurer_index.proofs.gap_words.parts.first_start.Given as goal

abbrev pub invariant-loop-at : goal.invariant-loop-at
invariant-loop-at l = record {
  after : l.start ≤ l.from;
  none : IsNoneBefore l.path l.part l.start l.from;
}

abbrev pub decreases-loop-at : goal.decreases-loop-at
decreases-loop-at l = length l.path.edges + 1 - l.from
