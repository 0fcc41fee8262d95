use Rattle.std.proofs.Common.{◌≡◌, ◌<◌, length, get_or, ℕ, false, true}
use Rattle.filters.proofs.marks.all_marked.Given as goal

abbrev pub invariant-loop : goal.invariant-loop
invariant-loop l = record { size : length l.marks.items ≡ l.counter; each : (k : ℕ) → k < l.counter → get_or l.marks.items k false ≡ true }
