-- What is said of the least input of a goal within bounds and a budget.
use Rattle.std.specs.Prelude.{◌≡◌, ℕ, ℤ, List, length, map, take}
use Rattle.c_meaning.specs.declared.ends.Ends.{Ends}
use Rattle.c_meaning.specs.declared.input.Input.{Input}
use Rattle.cfa.specs.declared.parts.Function.{Function}
use Rattle.cfa.specs.declared.parts.GraphParts.{GraphParts}
use Rattle.cfa.specs.declared.state.Predicates.{Predicates}
use Rattle.certificate.specs.Certificates.{IsPair}
use Rattle.cnf.specs.declared.formula.Formula.{Formula}
use Rattle.goal_formula_laws.specs.formula_laws.Units.{with_units}
use Rattle.goal_formula.specs.Exact.{IsExact}
use Rattle.goal_formula.specs.declared.goal.GoalFormula.{GoalFormula}
use Rattle.goals.specs.GoalForm.{GoalForm}
use Rattle.goals.specs.declared.plan.Plan.{Plan}
use Rattle.unwinder_reach.specs.declared.reached.bounds.Bounds.{Bounds}
use Rattle.search.specs.Laws.{IsFormula}
use Rattle.search.specs.Nexts.{IsRefutation}
use Rattle.search.specs.declared.moves.History.{History}
use Rattle.suite.specs.Made.{FallsShort, IsSpent, NoneHits}
use Rattle.least_input.specs.Fixing.{AreFixed, variable_of, variables_in_order}
use Rattle.least_input.specs.Least.{IsLeast}
use Rattle.least_input.specs.declared.least.Fixed.{Fixed}
use Rattle.least_input.specs.declared.least.Least.{Least}
use Rattle.least_input.specs.declared.least.Least.TheVariants.{Found, Refuted, Open}

module _ (parts : GraphParts) (f : Function) (p : Predicates) (plan : Plan) (bounds : Bounds) (ends : Ends) where
  -- The least input, with all answers that the bounds allow; a formula that is exact for the goal; and what shows of each bit
  -- that is 1 that it can't be 0.
  pub record IsFoundLeast (goal : GoalForm) (budget : ℕ) (input : Input) (formula : GoalFormula) (fixed : List Fixed) : Type 0 where
    pub least : IsLeast parts f p plan bounds ends goal input
    pub answers : length input.answers ≡ bounds.answers
    pub exact : IsExact parts p f bounds ends plan goal formula
    pub fixed_are : AreFixed formula budget input fixed

  -- A search spent its budget: the formula is one that is exact for the goal, with unit clauses at its end that set the first
  -- of the input bits, in the order in which they decide; the moves are as many as the budget, and the end isn't finished.
  pub record IsOpen (goal : GoalForm) (budget : ℕ) (formula : Formula) (history : History) : Type 0 where
    pub whole : GoalFormula
    pub exact : IsExact parts p f bounds ends plan goal whole
    pub units : List ℤ
    pub on_first : map variable_of units ≡ take (length units) (variables_in_order whole)
    pub formula_is : formula ≡ with_units whole.formula units
    pub over : IsFormula formula
    pub spent : IsSpent formula budget history

  -- what is answered of a goal with a budget of so many moves for each search
  abbrev pub IsAnswered : GoalForm → ℕ → Least → Type 0
  IsAnswered goal budget (Found input formula fixed) = IsFoundLeast goal budget input formula fixed
  IsAnswered goal budget (Refuted formula derivation) =
      IsExact parts p f bounds ends plan goal formula × IsRefutation formula.formula budget derivation × NoneHits parts f p plan bounds ends goal × IsPair formula.formula derivation
  IsAnswered goal budget (Open formula history) = IsOpen goal budget formula history

-- a goal stays open only where its budget falls short
abbrev pub IsOpenWhereShort : GraphParts → Function → Predicates → Plan → Bounds → GoalForm → ℕ → Least → Type 0
IsOpenWhereShort parts f p plan bounds goal budget (Found input formula fixed) = Unit {0}
IsOpenWhereShort parts f p plan bounds goal budget (Refuted formula derivation) = Unit {0}
IsOpenWhereShort parts f p plan bounds goal budget (Open formula history) = FallsShort parts f p plan bounds goal budget
