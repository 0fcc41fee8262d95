use Rattle.std.proofs.Common.{◌≡◌, ◌≤◌, ◌<◌, ℕ, Some}
use Rattle.std.specs.Prelude.{slice_get}
use Rattle.goals.specs.declared.goal_letter.GoalLetter.TheVariants.{Absent}
use Rattle.measurer_index.proofs.word_index.letters.absents_above.Given as goal

abbrev pub invariant-loop-letter : goal.invariant-loop-letter
invariant-loop-letter l = record {
  from : l.bound ≤ l.above;
  absents : (d p : ℕ) → d < l.letter-index → slice_get l.word d ≡ Some (Absent p) → p < l.above;
}
