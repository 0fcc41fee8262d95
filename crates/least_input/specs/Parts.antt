-- What only the code's parts ask of each other.
use Rattle.std.specs.Prelude.{◌≡◌, ℕ, ◌≤◌, ◌^◌, ℤ, Bool, false, List, [], ◌∷◌, ◌++◌, map, length, take, Option, Some, None}
use Rattle.cnf.specs.declared.formula.Formula.{Formula}
use Rattle.goal_formula_laws.specs.formula_laws.Units.{with_units}
use Rattle.search.specs.Laws.{IsFormula}
use Rattle.search.specs.Nexts.{IsModel}
use Rattle.search.specs.declared.moves.History.{History}
use Rattle.suite.specs.Made.{IsSpent}
use Rattle.c_meaning.specs.declared.input.Input.{Input}
use Rattle.c_values.specs.declared.kinds.Kind.{Kind}
use Rattle.cfa.specs.declared.parts.Function.{Function}
use Rattle.goal_formula.specs.Bits.{AreInputsOver, IsShaped, assignment, number_in}
use Rattle.goal_formula.specs.declared.goal.GoalFormula.{GoalFormula}
use Rattle.least_input.specs.Fixing.{AreRefuted, literal_of, parts_of, variable_of, variables_in_order}
use Rattle.least_input.specs.declared.descent.Descent.{Descent}
use Rattle.least_input.specs.declared.least.Fixed.{Fixed}
use Rattle.least_input.specs.declared.lowest.Lowest.{Lowest}
use Rattle.least_input.specs.declared.lowest.Lowest.TheVariants.{Model, Spent}

-- one unit clause more, and nothing else
pub record Adds (before : Descent) (literal : ℤ) (after : Descent) : Type 0 where
  pub formula : after.formula ≡ with_units before.formula (literal ∷ [])
  pub units : after.units ≡ before.units ++ literal ∷ []
  pub model : after.model ≡ before.model
  pub fixed : after.fixed ≡ before.fixed

-- the formula with unit clauses, which set these variables
pub record HasUnits (base : Formula) (variables : List ℕ) (d : Descent) : Type 0 where
  pub formula : d.formula ≡ with_units base d.units
  pub set : map variable_of d.units ≡ variables
  pub over : IsFormula d.formula

-- a model of it, and what shows of each bit that is set to 1 that it can't be 0
pub record IsDescent (base : Formula) (budget : ℕ) (variables : List ℕ) (d : Descent) : Type 0 where
  pub has : HasUnits base variables d
  pub model : IsModel d.formula d.model
  pub parts : map (λ (part : Fixed). part.units) d.fixed ≡ parts_of d.units
  pub refuted : AreRefuted base budget d.fixed

-- these variables are set, or a search spent its budget
abbrev pub IsLowered : Formula → ℕ → List ℕ → Descent → Option History → Type 0
IsLowered base budget variables d None = IsDescent base budget variables d
IsLowered base budget variables d (Some history) = HasUnits base variables d × IsSpent d.formula budget history

-- literals that set variables as an assignment has them
abbrev pub set_as : (ℕ → Bool) → List ℕ → List ℤ
set_as value variables = map (λ n. literal_of (value n) n) variables

-- a formula is one with units that set the first of these variables, and a search of it spent its budget
pub record IsStuck (base : Formula) (budget : ℕ) (variables : List ℕ) (formula : Formula) (history : History) : Type 0 where
  pub units : List ℤ
  pub on_first : map variable_of units ≡ take (length units) variables
  pub formula_is : formula ≡ with_units base units
  pub over : IsFormula formula
  pub spent : IsSpent formula budget history

-- the least model of a formula, as far as these variables decide
pub record IsLowest (base : Formula) (budget : ℕ) (variables : List ℕ) (model : List Bool) (fixed : List Fixed) : Type 0 where
  pub model_is : IsModel base model
  pub parts : map (λ (part : Fixed). part.units) fixed ≡ parts_of (set_as (assignment model) variables)
  pub refuted : AreRefuted base budget fixed

abbrev pub IsLowestOf : GoalFormula → ℕ → Lowest → Type 0
IsLowestOf whole budget (Model formula model fixed) = (formula ≡ whole) × IsLowest whole.formula budget (variables_in_order whole) model fixed
IsLowestOf whole budget (Spent formula history) = IsStuck whole.formula budget (variables_in_order whole) formula history

-- all of these variables are set, or a search spent its budget before
abbrev pub AreLowered : Formula → ℕ → List ℕ → Descent → Option History → Type 0
AreLowered base budget variables d None = IsDescent base budget variables d
AreLowered base budget variables d (Some history) = IsStuck base budget variables d.formula history

-- a kind of as many bits, without a sign
abbrev pub without_sign : Kind → Kind
without_sign kind = record { width = kind.width; signed = false }

-- the input whose words and answers are the numbers of their bits
abbrev pub numbers_in : (ℕ → Bool) → GoalFormula → Input
numbers_in value g = record { words = map (number_in value) g.words; answers = map (number_in value) g.answers }
