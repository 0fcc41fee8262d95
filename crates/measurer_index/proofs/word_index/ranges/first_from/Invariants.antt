use Rattle.std.proofs.Common.{◌≤◌, ◌<◌, ◌-◌, ℕ}
use Rattle.measurer_index.specs.word_index.Order.{key_at}
use Rattle.measurer_index.proofs.word_index.ranges.first_from.Given as goal

abbrev pub invariant-loop-from : goal.invariant-loop-from
invariant-loop-from l = record {
  low : l.group.low ≤ l.from;
  middle : l.from ≤ l.to;
  high : l.to ≤ l.group.high;
  below : (r : ℕ) → l.group.low ≤ r → r < l.from → key_at l.goals l.order l.group.depth r < l.key;
  above : (r : ℕ) → l.to ≤ r → r < l.group.high → l.key ≤ key_at l.goals l.order l.group.depth r;
}

abbrev pub decreases-loop-from : goal.decreases-loop-from
decreases-loop-from l = l.to - l.from
