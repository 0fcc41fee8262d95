use Rattle.std.proofs.Common.{◌≡◌, length, get_or, ℕ, false, take}
use Rattle.filters.specs.Parts.{is_among}
use Rattle.filters.proofs.marks.marked.Given as goal

abbrev pub invariant-loop-number : goal.invariant-loop-number
invariant-loop-number l = record {
  size : length l.marks.items ≡ l.count;
  each : (k : ℕ) → get_or l.marks.items k false ≡ is_among (take l.number-index l.numbers) k;
}
