-- One goal within bounds: whether it has a formula.
use Rattle.std.specs.Prelude.{◌≡◌, ◌⊎◌, ◌<◌, ◌≤◌, List, length}
use Rattle.cfa.specs.Contexts.{Pair}
use Rattle.cfa.specs.declared.parts.Function.{Function}
use Rattle.cfa.specs.declared.parts.GraphParts.{GraphParts}
use Rattle.cfa.specs.declared.state.Predicates.{Predicates}
use Rattle.fq_core.specs.Refusals.{refusal}
use Rattle.fq_core.specs.declared.refusal.Fault.TheVariants as fault
use Rattle.fq_core.specs.declared.refusal.Place.TheVariants as place
use Rattle.fq_core.specs.declared.refusal.Refusal.{Refusal}
use Rattle.goal_formula.specs.Sizes.{goal_size}
use Rattle.goals.specs.GoalForm.{GoalForm}
use Rattle.goals.specs.declared.plan.Plan.{Plan}
use Rattle.unwinder_reach.specs.reached.Reaching.{AreReached}
use Rattle.unwinder_reach.specs.declared.reached.bounds.Bounds.{Bounds}
use Rattle.unwinder_reach.specs.declared.reached.step.Step.{Step}
use Rattle.unwinder.specs.Unwinding.{IsUnwindFault}
use Rattle.unwinder_reach.specs.unwinding_size.Sizes.{size_sum}

module _ (parts : GraphParts) (f : Function) (p : Predicates) (plan : Plan) (bounds : Bounds) (goal : GoalForm) where
  -- The pairs that are reached within the bounds, their size sum and the goal's size are within their limits.
  pub record IsGoalWithin : Type 0 where
    pub pairs : List Pair
    pub steps : List (List Step)
    pub reached : AreReached parts bounds f pairs steps
    pub few_pairs : length pairs ≤ 50000
    pub small : size_sum parts p f pairs steps ≤ 4194304
    pub size : goal_size plan goal (length pairs) ≤ 8388608

  -- The pairs and their size sum are within their limits, and the goal's size isn't.
  pub record IsGoalTooLarge : Type 0 where
    pub pairs : List Pair
    pub steps : List (List Step)
    pub reached : AreReached parts bounds f pairs steps
    pub few_pairs : length pairs ≤ 50000
    pub small : size_sum parts p f pairs steps ≤ 4194304
    pub large : 8388608 < goal_size plan goal (length pairs)

  -- codes 80 and 81 are those of the unwinding, and 82 says that the goal is too large
  abbrev pub IsGoalRefused : Refusal → Type 0
  IsGoalRefused r = IsUnwindFault parts p bounds f (fault.Refused r) ⊎ ((fault.Refused r ≡ refusal 82 (place.Limit 8388608)) × IsGoalTooLarge)
