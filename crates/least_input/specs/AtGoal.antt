-- What is answered of a goal that is sought.
use Rattle.std.specs.Prelude.{ℕ}
use Rattle.suite_problem.specs.declared.goal.Goal.{Goal}
use Rattle.goals.specs.GoalForm.{GoalForm}
use Rattle.suite.specs.Seeking.{IsGoalOf}
use Rattle.least_input.specs.Answers.{IsAnswered, IsOpenWhereShort}
use Rattle.least_input.specs.declared.least.Least.{Least}

module _ (goal : Goal) where
  abbrev pub IsAnsweredAs : GoalForm → ℕ → Least → Type 0
  IsAnsweredAs form budget least =
      IsAnswered goal.given.now.planned.entry.graph.now goal.given.now.planned.entry.function.now goal.given.now.planned.predicates goal.given.now.planned.plan goal.given.now.bounds goal.given.now.ends form budget least

  abbrev pub IsOpenAs : GoalForm → ℕ → Least → Type 0
  IsOpenAs form budget least =
      IsOpenWhereShort goal.given.now.planned.entry.graph.now goal.given.now.planned.entry.function.now goal.given.now.planned.predicates goal.given.now.planned.plan goal.given.now.bounds form budget least

  -- what is found of the least input is so
  abbrev pub IsAnsweredAt : ℕ → Least → Type 0
  IsAnsweredAt budget least = (form : GoalForm) → IsGoalOf goal form → IsAnsweredAs form budget least

  -- the goal stays open only where the budget falls short
  abbrev pub IsOpenAt : ℕ → Least → Type 0
  IsOpenAt budget least = (form : GoalForm) → IsGoalOf goal form → IsOpenAs form budget least
