use Rattle.std.proofs.Common.{◌≡◌, ℕ, false, get_or}
use Rattle.measurer_index.proofs.word_index.numbers.Numbers.new.Given as goal

abbrev pub invariant-loop : goal.invariant-loop
invariant-loop l = (k : ℕ) → get_or l.known.items k false ≡ false
