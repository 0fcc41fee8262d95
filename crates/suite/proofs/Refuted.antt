-- A derivation that checks over the exact formula of a goal shows that no input hits it within the bounds.
use Rattle.c_meaning.specs.declared.ends.Ends.{Ends}
use Rattle.cfa.specs.declared.parts.Function.{Function}
use Rattle.cfa.specs.declared.parts.GraphParts.{GraphParts}
use Rattle.cfa.specs.declared.state.Predicates.{Predicates}
use Rattle.cnf.proofs.ChecksLaws.{no_model}
use Rattle.cnf.specs.Checks.{Checks}
use Rattle.cnf.specs.declared.derivation.Derivation.{Derivation}
use Rattle.goal_formula.specs.Exact.{IsExact}
use Rattle.goal_formula.specs.declared.goal.GoalFormula.{GoalFormula}
use Rattle.goals.specs.GoalForm.{GoalForm}
use Rattle.goals.specs.declared.plan.Plan.{Plan}
use Rattle.unwinder_reach.specs.declared.reached.bounds.Bounds.{Bounds}
use Rattle.suite.specs.Made.{NoneHits}

pub none_hits : (parts : GraphParts) (f : Function) (p : Predicates) (plan : Plan) (bounds : Bounds) (ends : Ends) (goal : GoalForm) (g : GoalFormula) (derivation : Derivation)
    → IsExact parts p f bounds ends plan goal g → Checks g.formula derivation → NoneHits parts f p plan bounds ends goal
none_hits parts f p plan bounds ends goal g derivation exact checks = λ input given hits.
    let it = exact.complete input given hits in
    no_model g.formula derivation it.0 checks it.2
