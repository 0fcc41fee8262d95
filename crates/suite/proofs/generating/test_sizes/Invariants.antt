use Rattle.std.proofs.Common.{◌≡◌, ℕ, ◌<◌, ◌≤◌, Some}
use Rattle.std.specs.Prelude.{slice_get}
use Rattle.goal_formula.specs.Sizes.{goal_size}
use Rattle.goals.specs.GoalForm.{GoalForm}
use Rattle.suite.proofs.generating.test_sizes.Given as goal

abbrev pub invariant-loop-place : goal.invariant-loop-place
invariant-loop-place l = (k : ℕ) (g : GoalForm) → k < l.place → slice_get l.plan.goals k ≡ Some g → goal_size l.plan g l.pairs ≤ 8388608
