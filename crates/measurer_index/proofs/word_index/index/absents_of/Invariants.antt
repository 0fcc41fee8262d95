use Rattle.std.proofs.Common.{◌≡◌, ◌<◌, ℕ, Some}
use Rattle.std.specs.Prelude.{slice_get}
use Rattle.goals.specs.declared.goal_letter.GoalLetter.TheVariants.{Absent}
use Rattle.measurer_index.specs.word_index.Walks.{word_at}
use Rattle.measurer_index.proofs.word_index.index.absents_of.Given as goal

abbrev pub invariant-loop-goal : goal.invariant-loop-goal
invariant-loop-goal l = (g d p : ℕ) → g < l.goal-index → slice_get (word_at l.goals g) d ≡ Some (Absent p) → p < l.bound
