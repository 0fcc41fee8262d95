use Rattle.std.proofs.Common.{◌≡◌, length, get_or, ℕ, false}
use Rattle.filters.proofs.marks.none_marked.Given as goal

abbrev pub invariant-loop : goal.invariant-loop
invariant-loop l = record { size : length l.marks.items ≡ l.counter; each : (k : ℕ) → get_or l.marks.items k false ≡ false }
