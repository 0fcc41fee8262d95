-- What follows where bounds suffice.
use Rattle.c_meaning.specs.declared.ends.Ends.{Ends}
use Rattle.c_meaning.specs.declared.input.Input.{Input}
use Rattle.cfa.specs.declared.parts.Function.{Function}
use Rattle.cfa.specs.declared.parts.GraphParts.{GraphParts}
use Rattle.cfa.specs.declared.state.Predicates.{Predicates}
use Rattle.cnf.specs.Checks.{Checks}
use Rattle.cnf.specs.declared.derivation.Derivation.{Derivation}
use Rattle.cnf.specs.declared.formula.Formula.{Formula}
use Rattle.goals.specs.GoalForm.{GoalForm}
use Rattle.goals.specs.declared.plan.Plan.{Plan}
use Rattle.measurer_hits.specs.hits.Inputs.{InputHits, InputHitsWithin}
use Rattle.unwinder_reach.specs.declared.reached.bounds.Bounds.{Bounds}
use Rattle.unwinder.specs.Lists.{IsInputFor}
use Rattle.bounds_check.specs.Leaving.{IsForLeaving, NoneLeaves}

-- where no input leaves the bounds, a goal that no input hits within them is hit by no input's run at all, whatever ends count
abbrev pub UnhitIsUnreachable : Type 0
UnhitIsUnreachable =
    (parts : GraphParts) (f : Function) (bounds : Bounds) (p : Predicates) (plan : Plan) (ends : Ends) (goal : GoalForm) → NoneLeaves parts f bounds →
    ((input : Input) → IsInputFor f input → ¬ InputHitsWithin parts f p plan ends bounds.turns bounds.frames bounds.answers goal input) →
    (input : Input) → IsInputFor f input → ¬ InputHits parts f p plan ends goal input

-- a derivation that checks over a formula for leaving the bounds shows that no input leaves them
abbrev pub DerivationsSuffice : Type 0
DerivationsSuffice =
    (parts : GraphParts) (f : Function) (bounds : Bounds) (formula : Formula) (derivation : Derivation) → IsForLeaving parts f bounds formula → Checks formula derivation → NoneLeaves parts f bounds
