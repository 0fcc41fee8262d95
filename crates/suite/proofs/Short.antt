-- Where a goal stays undecided, the budget falls short.
use Rattle.std.proofs.Common.{◌≡◌, ℕ, zero, suc, ◌+◌, ◌-◌, ◌≤◌, ◌<◌, ◌^◌, List, [], ◌∷◌, map, Some, refl, sym, ap, subst, ◌∙◌, arith}
use Rattle.std.specs.Prelude.{slice_get}
use Rattle.std.proofs.Math.Nat.{pow-le-pow_right}
use Rattle.std.proofs.lemmas.Option.{same_Some}
use Rattle.c_meaning.specs.declared.ends.Ends.{Ends}
use Rattle.cfa.specs.declared.parts.Function.{Function}
use Rattle.cfa.specs.declared.parts.GraphParts.{GraphParts}
use Rattle.cfa.specs.declared.state.Predicates.{Predicates}
use Rattle.cnf.specs.declared.formula.Formula.{Formula}
use Rattle.goal_formula.specs.Exact.{IsExact, most_variables}
use Rattle.goal_formula.specs.declared.goal.GoalFormula.{GoalFormula}
use Rattle.goals.specs.GoalForm.{GoalForm}
use Rattle.goals.specs.declared.answer.Answer.{Answer}
use Rattle.goals.specs.declared.answer.Answer.TheVariants as answer
use Rattle.goals.specs.declared.plan.Plan.{Plan}
use Rattle.unwinder_reach.specs.declared.reached.bounds.Bounds.{Bounds}
use Rattle.search.proofs.HistoryLaws.{histories_end_law}
use Rattle.search.specs.declared.moves.History.{History}
use Rattle.suite.specs.Generated.{IsGenerated, Shown, undecided_from}
use Rattle.suite.specs.Made.{FallsShort, IsDecided, IsOpenWhereShort, IsSpent}
use Rattle.suite.specs.declared.decided.Decided.{Decided}
use Rattle.suite.specs.declared.decided.Decided.TheVariants as decided
use Rattle.suite_problem.specs.declared.generated.Generated.{Generated}

-- ---- the numbers of undecided goals

undecided_at : (number : ℕ) (answers : List Answer) (place : ℕ) → slice_get answers place ≡ Some answer.Undecided → (k : ℕ) × (slice_get (undecided_from number answers) k ≡ Some (number + place))
undecided_at number [] place at = absurd cc
undecided_at number (answer.Undecided ∷ answers) zero at = (0, let same : number ≡ number + 0 = omega arith in ap Some same)
undecided_at number (answer.Covered input ∷ answers) zero at = absurd cc
undecided_at number (answer.Missed ∷ answers) zero at = absurd cc
undecided_at number (answer.Refuted ∷ answers) zero at = absurd cc
undecided_at number (answer.Undecided ∷ answers) (suc place) at =
    let rest = undecided_at (number + 1) answers place at in
    let same : number + 1 + place ≡ number + suc place = omega arith in
    (suc rest.0, rest.1 ∙ ap Some same)
undecided_at number (answer.Covered input ∷ answers) (suc place) at = let rest = undecided_at (number + 1) answers place at in let same : number + 1 + place ≡ number + suc place = omega arith in (rest.0, rest.1 ∙ ap Some same)
undecided_at number (answer.Missed ∷ answers) (suc place) at = let rest = undecided_at (number + 1) answers place at in let same : number + 1 + place ≡ number + suc place = omega arith in (rest.0, rest.1 ∙ ap Some same)
undecided_at number (answer.Refuted ∷ answers) (suc place) at = let rest = undecided_at (number + 1) answers place at in let same : number + 1 + place ≡ number + suc place = omega arith in (rest.0, rest.1 ∙ ap Some same)

mapped_from : {A B : Type 0} (f : A → B) (xs : List A) (k : ℕ) (y : B) → slice_get (map f xs) k ≡ Some y → (x : A) × (slice_get xs k ≡ Some x) × (f x ≡ y)
mapped_from f [] k y at = absurd cc
mapped_from f (x ∷ xs) zero y at = (x, refl, same_Some (f x) y at)
mapped_from f (x ∷ xs) (suc k) y at = mapped_from f xs k y at

module _ (parts : GraphParts) (f : Function) (p : Predicates) (plan : Plan) (bounds : Bounds) (ends : Ends) where
  -- a history of so many moves has fewer than 3 to the number of the variables
  pub short_of : (goal : GoalForm) (g : GoalFormula) (budget : ℕ) (history : History) → IsExact parts p f bounds ends plan goal g → IsSpent g.formula budget history → FallsShort parts f p plan bounds goal budget
  short_of goal g budget history exact spent = record {
    pairs = exact.pairs;
    steps = exact.steps;
    reached = exact.reached;
    short =
        (let own = histories_end_law g.formula history.moves spent.1.0 exact.over spent.1.1 in
        let three : 0 < 3 = omega arith in
        let most : 3 ^ g.formula.variables ≤ 3 ^ most_variables parts p f bounds plan goal exact.pairs exact.steps = pow-le-pow_right three exact.few_variables in
        let count = spent.0 in
        omega (arith, own, most, count));
  }

  pub open_where_short : (goal : GoalForm) (budget : ℕ) (d : Decided) → IsDecided parts f p plan bounds ends goal budget d → IsOpenWhereShort parts f p plan bounds goal budget d
  open_where_short goal budget (decided.Covered input) h = tt
  open_where_short goal budget (decided.Refuted formula derivation) h = tt
  open_where_short goal budget (decided.Undecided formula history) h = short_of goal formula budget history h.0 h.1

  pub undecided_short : (budget : ℕ) (made : Generated) (shown : List Shown) → IsGenerated parts f p plan bounds ends budget made shown
      → (place : ℕ) (goal : GoalForm) → slice_get plan.goals place ≡ Some goal → slice_get made.answers place ≡ Some answer.Undecided → FallsShort parts f p plan bounds goal budget
  undecided_short budget made shown h place goal there undecided =
      let number = undecided_at 1 made.answers place undecided in
      let one = mapped_from (λ (s : Shown). s.0) shown number.0 (1 + place) (ap (λ ns. slice_get ns number.0) h.answered.shown_numbers ∙ number.1) in
      let it = h.answered.shown_each number.0 one.0 one.1 in
      let at : one.0.0 - 1 ≡ place = (let own = one.2 in omega (arith, own)) in
      let same : it.goal ≡ goal = same_Some it.goal goal (sym it.there ∙ ap (slice_get plan.goals) at ∙ there) in
      let spent : IsSpent it.formula.formula budget one.0.2 = subst (λ (x : Formula). IsSpent x budget one.0.2) (sym it.formula_is) it.spent in
      subst (λ (x : GoalForm). FallsShort parts f p plan bounds x budget) same (short_of it.goal it.formula budget one.0.2 it.exact spent)
