-- Which variable is which bit of an input, and the input of an assignment.
use Rattle.std.specs.Prelude.{◌≡◌, ℕ, ◌-◌, ◌<◌, ◌≤◌, Bool, false, List, [], ◌∷◌, ◌++◌, map, replicate, Option, Some, slice_get, slice_index_or}
use Rattle.std.specs.List.{AllZip, Contains, flat_map}
use Rattle.std.specs.Option.{option_map_or}
use Rattle.std.proofs.Common.{length}
use Rattle.c_meaning.specs.declared.input.Input.{Input}
use Rattle.c_meaning.specs.Starts.{fitted}
use Rattle.c_values.specs.declared.kinds.Kind.{Kind}
use Rattle.circuit.specs.Truth.{World}
use Rattle.path_runner.specs.Masks.{number_of_bits}
use Rattle.goal_formula.specs.declared.goal.GoalFormula.{GoalFormula}

-- the variables of all input bits, in the order of the world of an input
abbrev pub input_variables : GoalFormula → List (Option ℕ)
input_variables g = flat_map (λ row. row) g.words ++ flat_map (λ row. row) g.answers

-- a place for each bit of each argument, and 64 for each answer
pub record IsShaped (parameters : List Kind) (answers : ℕ) (g : GoalFormula) : Type 0 where
  pub words : map length g.words ≡ map (λ (kind : Kind). kind.width) parameters
  pub answers_are : map length g.answers ≡ replicate answers 64

-- each of these variables is one of the formula's, from 1 to their number
abbrev pub AreInputsOver : GoalFormula → Type 0
AreInputsOver g = (n : ℕ) → Contains (input_variables g) (Some n) → (0 < n) × (n ≤ g.formula.variables)

-- none of them stands at two places
abbrev pub AreInputsApart : GoalFormula → Type 0
AreInputsApart g = (i j n : ℕ) → slice_get (input_variables g) i ≡ Some (Some n) → slice_get (input_variables g) j ≡ Some (Some n) → i ≡ j

-- two assignments give each input bit that has a variable the same value
abbrev pub AgreeOnInputs : (value other : ℕ → Bool) → GoalFormula → Type 0
AgreeOnInputs value other g = (n : ℕ) → Contains (input_variables g) (Some n) → value n ≡ other n

-- an assignment gives each of these bits that has a variable what the world has there
abbrev pub Gives : (ℕ → Bool) → List (Option ℕ) → World → Type 0
Gives value variables w = AllZip (λ (v : Option ℕ) (b : Bool). (n : ℕ) → v ≡ Some n → value n ≡ b) variables w

-- what an assignment gives a bit; one without a variable is 0
abbrev pub bit_in : (ℕ → Bool) → Option ℕ → Bool
bit_in value v = option_map_or value v false

-- the number of bits, the lowest first
abbrev pub number_in : (ℕ → Bool) → List (Option ℕ) → ℕ
number_in value row = number_of_bits (map (bit_in value) row)

-- the number of the bits of each argument, as a value of its parameter's kind
abbrev pub words_in : (ℕ → Bool) → List Kind → List (List (Option ℕ)) → List ℕ
words_in value [] rows = []
words_in value (kind ∷ kinds) [] = []
words_in value (kind ∷ kinds) (row ∷ rows) = fitted kind (number_in value row) ∷ words_in value kinds rows

-- the input of an assignment
abbrev pub input_from : (ℕ → Bool) → List Kind → GoalFormula → Input
input_from value kinds g = record { words = words_in value kinds g.words; answers = map (number_in value) g.answers }

-- the assignment of a list of values, those of the variables from 1 on
abbrev pub assignment : List Bool → ℕ → Bool
assignment model n = slice_index_or model (n - 1) false
