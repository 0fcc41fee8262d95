-- What is said of a goal, from what is known of it.
use Rattle.std.proofs.Common.{◌∙◌, sym, subst}
use Rattle.std.proofs.lemmas.Option.{same_Some}
use Rattle.suite_problem.specs.declared.goal.Goal.{Goal}
use Rattle.goal_formula.specs.Exact.{IsExact}
use Rattle.goal_formula.specs.declared.goal.GoalFormula.{GoalFormula}
use Rattle.goals.specs.GoalForm.{GoalForm}
use Rattle.unwinder_reach.specs.declared.reached.bounds.Bounds.{Bounds}
use Rattle.c_meaning.specs.declared.ends.Ends.{Ends}
use Rattle.unwinder.specs.declared.unwound.Unwound.{Unwound}
use Rattle.suite.specs.Seeking.{IsFormulaFor, IsGoalOf, IsUnwindingOf}

-- a formula for the goal is exact for its form
pub exact_for : (goal : Goal) (formula : GoalFormula) → IsFormulaFor goal formula → (form : GoalForm) → IsGoalOf goal form
    → IsExact goal.given.now.planned.entry.graph.now goal.given.now.planned.predicates goal.given.now.planned.entry.function.now goal.given.now.bounds goal.given.now.ends goal.given.now.planned.plan form formula
exact_for goal formula x form is =
    let Exact : GoalForm → Type 0 = λ g. IsExact goal.given.now.planned.entry.graph.now goal.given.now.planned.predicates goal.given.now.planned.entry.function.now goal.given.now.bounds goal.given.now.ends goal.given.now.planned.plan g formula in
    subst Exact (same_Some x.form form (sym x.is ∙ is)) x.exact

-- a formula that is exact by what an unwinding says of itself is so by what is given
pub exact_given : (goal : Goal) (formula : GoalFormula) (u : Unwound) (form : GoalForm) → IsUnwindingOf goal.given.now u
    → IsExact goal.given.now.planned.entry.graph.now goal.given.now.planned.predicates goal.given.now.planned.entry.function.now u.bounds u.ends goal.given.now.planned.plan form formula
    → IsExact goal.given.now.planned.entry.graph.now goal.given.now.planned.predicates goal.given.now.planned.entry.function.now goal.given.now.bounds goal.given.now.ends goal.given.now.planned.plan form formula
exact_given goal formula u form is exact =
    let Exact : Bounds → Ends → Type 0 = λ b x. IsExact goal.given.now.planned.entry.graph.now goal.given.now.planned.predicates goal.given.now.planned.entry.function.now b x goal.given.now.planned.plan form formula in
    subst (λ (x : Ends). Exact goal.given.now.bounds x) is.given_ends (subst (λ (b : Bounds). Exact b u.ends) is.given_bounds exact)
