use Rattle.std.proofs.Common.{◌≡◌, ◌<◌, ◌↔◌, ℕ, length}
use Rattle.patterns.specs.Match.{LetterMatch}
use Rattle.patterns.specs.Paths.{step_of}
use Rattle.patterns.specs.Places.{IsMarked, EndsAt}
use Rattle.patterns.proofs.reading.letter_ends.Given as goal

abbrev pub invariant-loop-place : goal.invariant-loop-place
invariant-loop-place l = record {
  size : length l.ends.items ≡ l.place;
  marked : (j : ℕ) → j < length l.ends.items → IsMarked l.ends.items j ↔ EndsAt (LetterMatch (step_of l.path) l.letter) l.starts j;
}
