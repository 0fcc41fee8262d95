use Rattle.std.proofs.Common.{◌≡◌, ◌<◌, length, get_or, ℕ, false}
use Rattle.filters.specs.Combining.{combined_mark}
use Rattle.filters.proofs.marks.combined.Given as goal

abbrev pub invariant-loop-i : goal.invariant-loop-i
invariant-loop-i l = record {
  size : length l.marks.items ≡ l.i;
  each : (k : ℕ) → k < l.i → get_or l.marks.items k false ≡ combined_mark l.combination (get_or l.a k false) (get_or l.b k false);
}
