use Rattle.std.proofs.Common.{◌≡◌, ◌<◌, ℕ, true, All}
use Rattle.std.specs.List.{Contains}
use Rattle.measurer_index.specs.word_index.Walks.{word_at, is_plain}
use Rattle.measurer_index.proofs.word_index.index.plain_places.Given as goal

abbrev pub invariant-loop-place : goal.invariant-loop-place
invariant-loop-place l = record {
  plain : All (λ p. is_plain (word_at l.goals p) ≡ true) l.places.items;
  every : (p : ℕ) → p < l.place → is_plain (word_at l.goals p) ≡ true → Contains l.places.items p;
}
