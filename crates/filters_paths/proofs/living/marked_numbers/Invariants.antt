use Rattle.std.proofs.Common.{◌≡◌, ◌<◌, ℕ, true, false, All, Contains, length, get_or}
use Rattle.filters_paths.proofs.living.marked_numbers.Given as goal

abbrev pub invariant-loop-n : goal.invariant-loop-n
invariant-loop-n l = record {
  within : All (λ n. n < length l.marks) l.numbers.items;
  each : (k : ℕ) → k < l.n → get_or l.marks k false ≡ true → Contains l.numbers.items k;
}
