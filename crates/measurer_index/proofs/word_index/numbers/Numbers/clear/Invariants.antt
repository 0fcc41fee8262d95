use Rattle.std.proofs.Common.{◌≡◌, ℕ, true, false, get_or, length}
use Rattle.std.specs.List.{Contains}
use Rattle.measurer_index.proofs.word_index.numbers.Numbers.clear.Given as goal

abbrev pub invariant-loop-member : goal.invariant-loop-member
invariant-loop-member l = (n : ℕ) → get_or l.self-inside.known.items n false ≡ true → Contains l.self-inside.members.items n

abbrev pub decreases-loop-member : goal.decreases-loop-member
decreases-loop-member l = length l.self-inside.members.items
