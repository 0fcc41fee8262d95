-- Where a search spends its budget: what is answered, and that the budget falls short.
use Rattle.std.proofs.Common.{◌≡◌, ℕ, ◌≤◌, ◌<◌, ◌^◌, [], refl, ap, arith}
use Rattle.std.proofs.Math.Nat.{pow-le-pow_right}
use Rattle.c_meaning.specs.declared.ends.Ends.{Ends}
use Rattle.cfa.specs.declared.parts.Function.{Function}
use Rattle.cfa.specs.declared.parts.GraphParts.{GraphParts}
use Rattle.cfa.specs.declared.state.Predicates.{Predicates}
use Rattle.cnf.specs.declared.formula.Formula.{Formula}
use Rattle.goal_formula.specs.Exact.{IsExact, most_variables}
use Rattle.goal_formula.specs.declared.goal.GoalFormula.{GoalFormula}
use Rattle.goals.specs.GoalForm.{GoalForm}
use Rattle.goals.specs.declared.plan.Plan.{Plan}
use Rattle.unwinder_reach.specs.declared.reached.bounds.Bounds.{Bounds}
use Rattle.search.proofs.HistoryLaws.{histories_end_law}
use Rattle.search.specs.declared.moves.History.{History}
use Rattle.suite.specs.Made.{FallsShort, IsSpent}
use Rattle.least_input.specs.Answers.{IsAnswered, IsOpen, IsOpenWhereShort}
use Rattle.least_input.specs.Fixing.{variables_in_order}
use Rattle.least_input.specs.Parts.{IsStuck}
use Rattle.least_input.specs.declared.least.Least.{Least}
use Rattle.least_input.specs.declared.least.Least.TheVariants.{Found, Refuted, Open}
use Rattle.least_input.proofs.Descents.{with_none}

module _ (parts : GraphParts) (f : Function) (p : Predicates) (plan : Plan) (bounds : Bounds) (ends : Ends) (goal : GoalForm) (budget : ℕ) where
  pub open_stuck : (g : GoalFormula) (formula : Formula) (history : History) → IsExact parts p f bounds ends plan goal g → IsStuck g.formula budget (variables_in_order g) formula history → IsOpen parts f p plan bounds ends goal budget formula history
  open_stuck g formula history exact h = record { whole = g; exact = exact; units = h.units; on_first = h.on_first; formula_is = h.formula_is; over = h.over; spent = h.spent }

  -- before any bit is set
  pub open_first : (g : GoalFormula) (history : History) → IsExact parts p f bounds ends plan goal g → IsSpent g.formula budget history → IsOpen parts f p plan bounds ends goal budget g.formula history
  open_first g history exact spent = record { whole = g; exact = exact; units = []; on_first = refl; formula_is = with_none g.formula; over = exact.over; spent = spent }

  open_short : (formula : Formula) (history : History) → IsOpen parts f p plan bounds ends goal budget formula history → FallsShort parts f p plan bounds goal budget
  open_short formula history h =
      let exact = h.exact in
      record {
        pairs = exact.pairs;
        steps = exact.steps;
        reached = exact.reached;
        short =
            (let own = histories_end_law formula history.moves h.spent.1.0 h.over h.spent.1.1 in
            let three : 0 < 3 = omega arith in
            let same : formula.variables ≡ h.whole.formula.variables = ap (λ (q : Formula). q.variables) h.formula_is in
            let count : formula.variables ≤ most_variables parts p f bounds plan goal exact.pairs exact.steps = (let few = exact.few_variables in omega (arith, same, few)) in
            let most : 3 ^ formula.variables ≤ 3 ^ most_variables parts p f bounds plan goal exact.pairs exact.steps = pow-le-pow_right three count in
            let moves = h.spent.0 in
            omega (arith, own, most, moves));
      }

  pub open_where_short : (least : Least) → IsAnswered parts f p plan bounds ends goal budget least → IsOpenWhereShort parts f p plan bounds goal budget least
  open_where_short (Found input formula fixed) h = tt
  open_where_short (Refuted formula derivation) h = tt
  open_where_short (Open formula history) h = open_short formula history h
