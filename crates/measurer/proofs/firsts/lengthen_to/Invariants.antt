use Rattle.std.proofs.Common.{◌≡◌, ◌≤◌, ◌+◌, ◌-◌, ℕ, length, get_or}
use Rattle.measurer.proofs.firsts.lengthen_to.Given as goal

abbrev pub invariant-loop-table : goal.invariant-loop-table
invariant-loop-table l = record {
  same : (k : ℕ) → get_or l.table.items k 0 ≡ get_or l.initial.table.items k 0;
  longer : length l.initial.table.items ≤ length l.table.items;
}

abbrev pub decreases-loop-table : goal.decreases-loop-table
decreases-loop-table l = l.place + 1 - length l.table.items
