-- What a formula with lessons says of a goal.
use Rattle.std.proofs.Common.{◌∙◌, ◌-◌, List, Bool, false}
use Rattle.std.specs.Prelude.{slice_index_or}
use Rattle.c_meaning.specs.declared.ends.Ends.{Ends}
use Rattle.cfa.specs.declared.parts.Function.{Function}
use Rattle.cfa.specs.declared.parts.GraphParts.{GraphParts}
use Rattle.cfa.specs.declared.state.Predicates.{Predicates}
use Rattle.cnf.proofs.ChecksLaws.{no_model}
use Rattle.cnf.specs.Checks.{Checks}
use Rattle.cnf.specs.declared.derivation.Derivation.{Derivation}
use Rattle.cnf.specs.declared.formula.Formula.{Formula}
use Rattle.goal_formula.specs.Exact.{IsExact}
use Rattle.goal_formula.specs.declared.goal.GoalFormula.{GoalFormula}
use Rattle.goals.specs.GoalForm.{GoalForm}
use Rattle.goals.specs.declared.plan.Plan.{Plan}
use Rattle.search_lemmas.specs.Giving.{SaysTheSame}
use Rattle.unwinder_reach.specs.declared.reached.bounds.Bounds.{Bounds}
use Rattle.search.specs.Nexts.{IsModel}
use Rattle.suite.specs.Made.{NoneHits}

-- a model of the formula with lessons is one of the formula
pub own_model : (formula given : Formula) (model : List Bool) → SaysTheSame formula given → IsModel given model → IsModel formula model
own_model formula given model same is = (is.0 ∙ same.variables, same.own_from (λ v. slice_index_or model (v - 1) false) is.1)

-- a derivation that checks over the formula with lessons shows that no input hits the goal within the bounds
pub given_none_hits : (parts : GraphParts) (f : Function) (p : Predicates) (plan : Plan) (bounds : Bounds) (ends : Ends) (goal : GoalForm) (g : GoalFormula) (given : Formula) (derivation : Derivation)
    → IsExact parts p f bounds ends plan goal g → SaysTheSame g.formula given → Checks given derivation → NoneHits parts f p plan bounds ends goal
given_none_hits parts f p plan bounds ends goal g given derivation exact same checks = λ input is hits.
    let it = exact.complete input is hits in
    no_model given derivation it.0 checks (same.given_from it.0 it.2)
