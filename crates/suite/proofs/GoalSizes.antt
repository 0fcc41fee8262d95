-- One goal over an unwinding: whether its size is within its limit.
use Rattle.std.proofs.Common.{◌≡◌, ◌<◌, ◌≤◌, ℕ, Bool, false, inl, inr, rules, subst}
use Rattle.std.specs.Prelude.{◌↔◌, IsTrue}
use Rattle.c_meaning.specs.declared.ends.Ends.{Ends}
use Rattle.cfa.specs.declared.parts.Function.{Function}
use Rattle.cfa.specs.declared.parts.GraphParts.{GraphParts}
use Rattle.cfa.specs.declared.state.Predicates.{Predicates}
use Rattle.fq_core.specs.Refusals.{IfRefused}
use Rattle.fq_core.specs.declared.refusal.Fault.{Fault}
use Rattle.fq_core.specs.declared.refusal.Fault.TheVariants as fault
use Rattle.goal_formula.specs.Sizes.{IsFormulaFault, goal_size}
use Rattle.goals.specs.GoalForm.{GoalForm}
use Rattle.goals.specs.declared.plan.Plan.{Plan}
use Rattle.unwinder_reach.specs.declared.reached.bounds.Bounds.{Bounds}
use Rattle.unwinder.specs.Unwinding.{IsUnwindFault, IsUnwound}
use Rattle.unwinder.specs.declared.unwound.Unwound.{Unwound}
use Rattle.suite.specs.OneGoal.{IsGoalRefused, IsGoalTooLarge, IsGoalWithin}

pub unwind_refused : (parts : GraphParts) (f : Function) (p : Predicates) (plan : Plan) (bounds : Bounds) (goal : GoalForm) (e : Fault) → IsUnwindFault parts p bounds f e
    → IfRefused e (IsGoalRefused parts f p plan bounds goal)
unwind_refused parts f p plan bounds goal (fault.Refused x) why = inl why
unwind_refused parts f p plan bounds goal fault.Memory why = tt

-- a size is within the limit where it isn't found to be above it
pub small_unless : (large : Bool) (size : ℕ) → (IsTrue large ↔ (8388608 < size)) → large ≡ false → size ≤ 8388608
small_unless large size is within = search rules

module _ (parts : GraphParts) (p : Predicates) (f : Function) (entry : ℕ) (bounds : Bounds) (ends : Ends) (u : Unwound) (is : IsUnwound parts p f entry bounds ends u) (plan : Plan) (goal : GoalForm) where
  pub goal_is_within : goal_size plan goal u.pairs ≤ 8388608 → IsGoalWithin parts f p plan bounds goal
  goal_is_within size = record {
    pairs = is.pairs;
    steps = is.steps;
    reached = is.reached;
    few_pairs = is.few_pairs;
    small = is.small;
    size = subst (λ (n : ℕ). goal_size plan goal n ≤ 8388608) is.pair_count size;
  }

  pub goal_is_too_large : 8388608 < goal_size plan goal u.pairs → IsGoalTooLarge parts f p plan bounds goal
  goal_is_too_large size = record {
    pairs = is.pairs;
    steps = is.steps;
    reached = is.reached;
    few_pairs = is.few_pairs;
    small = is.small;
    large = subst (λ (n : ℕ). 8388608 < goal_size plan goal n) is.pair_count size;
  }

  pub goal_refused : (e : Fault) → IsFormulaFault (goal_size plan goal u.pairs) e → IfRefused e (IsGoalRefused parts f p plan bounds goal)
  goal_refused (fault.Refused x) why = inr (why.0, goal_is_too_large why.1)
  goal_refused fault.Memory why = tt
