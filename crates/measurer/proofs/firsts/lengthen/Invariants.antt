use Rattle.std.proofs.Common.{◌≡◌, ◌<◌, ℕ, length, get_or}
use Rattle.measurer.proofs.firsts.lengthen.Given as goal

abbrev pub invariant-loop-number : goal.invariant-loop-number
invariant-loop-number l = record {
  same : (k : ℕ) → get_or l.table.items k 0 ≡ get_or l.initial.table.items k 0;
  room : (k : ℕ) → k < l.number-index → get_or l.numbers k 0 < length l.table.items;
}
