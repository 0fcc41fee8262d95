use Rattle.std.proofs.Common.{◌≡◌, ◌<◌, ◌≤◌, ℕ, false, get_or}
use Rattle.std.specs.List.Sorted.{IsStrictlyIncreasing}
use Rattle.filters.specs.Parts.{is_among}
use Rattle.filters.proofs.marks.numbers.Given as goal

abbrev pub invariant-loop-i : goal.invariant-loop-i
invariant-loop-i l = record {
  rise : IsStrictlyIncreasing l.numbers.items;
  below : (k : ℕ) → l.i ≤ k → is_among l.numbers.items k ≡ false;
  each : (k : ℕ) → k < l.i → is_among l.numbers.items k ≡ get_or l.marks k false;
}
