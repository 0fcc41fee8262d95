use Rattle.std.proofs.Common.{◌≡◌, ◌<◌, ℕ, Some}
use Rattle.std.specs.Prelude.{slice_get}
use Rattle.goals.specs.GoalForm.{GoalForm, HasItsPattern}
use Rattle.measurer.proofs.tables.patterns_are_of_words.Given as goal

abbrev pub invariant-loop-goal : goal.invariant-loop-goal
invariant-loop-goal l = (place : ℕ) (own : GoalForm) → place < l.goal-index → slice_get l.goals place ≡ Some own → HasItsPattern own
