-- The least input that hits a goal within bounds.
use Rattle.c_meaning.specs.declared.ends.Ends.{Ends}
use Rattle.c_meaning.specs.declared.input.Input.{Input}
use Rattle.cfa.specs.declared.parts.Function.{Function}
use Rattle.cfa.specs.declared.parts.GraphParts.{GraphParts}
use Rattle.cfa.specs.declared.state.Predicates.{Predicates}
use Rattle.goals.specs.GoalForm.{GoalForm}
use Rattle.goals.specs.declared.plan.Plan.{Plan}
use Rattle.measurer_hits.specs.hits.Inputs.{InputHitsWithin}
use Rattle.unwinder_reach.specs.declared.reached.bounds.Bounds.{Bounds}
use Rattle.unwinder.specs.Lists.{IsInputFor}
use Rattle.least_input.specs.Order.{IsLower}

module _ (parts : GraphParts) (f : Function) (p : Predicates) (plan : Plan) (bounds : Bounds) (ends : Ends) where
  -- The input has a run within the bounds that hits the goal, and no input at all that compares less has one.
  pub record IsLeast (goal : GoalForm) (input : Input) : Type 0 where
    pub given : IsInputFor f input
    pub hits : InputHitsWithin parts f p plan ends bounds.turns bounds.frames bounds.answers goal input
    pub least : (other : Input) → IsInputFor f other → InputHitsWithin parts f p plan ends bounds.turns bounds.frames bounds.answers goal other
        → ¬ IsLower bounds.answers other input
