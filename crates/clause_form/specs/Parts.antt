-- What only the code's parts ask of each other.
use Rattle.std.specs.Prelude.{◌≡◌, ℕ, suc, ◌+◌, ◌^◌, ◌≤◌, ◌<◌, ◌==◌, ℤ, neg_ℤ, Bool, true, false, ◌||◌, List, [], ◌∷◌, length, take, slice_index_or, Option, Some, IsSome, IsSomeAnd}
use Rattle.std.specs.List.{filter_map, range_with_len}
use Rattle.circuit.specs.declared.lit.Lit.{Lit}
use Rattle.circuit.specs.declared.lit.Gate.{Gate}
use Rattle.circuit.specs.declared.lit.Gate.TheVariants.{Input, And}
use Rattle.circuit.specs.Wires.{HasNumber, IsReduced, PartsUpTo, input_count}
use Rattle.clause_form.specs.Cone.{gate_on, IsInCone}
use Rattle.clause_form.specs.Encoding.{variable_of}

-- ---- gates

-- what a circuit keeps of the gate at a place, from 0
pub record IsGateAt (gates : List Gate) (place : ℕ) (g : Gate) : Type 0 where
  pub parts : PartsUpTo place g
  pub number : HasNumber (input_count (take place gates)) g
  pub reduced : IsReduced g

-- whether a wire is a part of a gate
abbrev pub is_part : ℕ → Gate → Bool
is_part wire (Input number) = false
is_part wire (And a b) = (a.wire == wire) || (b.wire == wire)

-- both parts of a gate are on wires below this one
abbrev pub ArePartsBelow : ℕ → Gate → Type 0
ArePartsBelow wire (Input number) = Unit {0}
ArePartsBelow wire (And a b) = (a.wire < wire) × (b.wire < wire)

-- ---- marks and variables

-- marks, one for each wire from the constant on, as they are once the gates from a place on have been visited: only wires
-- of the cone are marked, and with each visited one its parts
pub record IsMarkedFrom (gates : List Gate) (root : Lit) (place : ℕ) (marks : List Bool) : Type 0 where
  pub size : length marks ≡ length gates + 1
  pub own : slice_index_or marks root.wire false ≡ true
  pub inside : (wire : ℕ) → slice_index_or marks wire false ≡ true → IsInCone gates root wire
  pub closed : (k : ℕ) (g : Gate) → place ≤ k → slice_index_or marks (suc k) false ≡ true → gate_on gates (suc k) ≡ Some g
      → (wire : ℕ) → is_part wire g ≡ true → slice_index_or marks wire false ≡ true
  pub gate : (k : ℕ) (g : Gate) → place ≤ k → slice_index_or marks (suc k) false ≡ true → gate_on gates (suc k) ≡ Some g → IsGateAt gates k g

-- how many wires have a variable
abbrev pub variable_count : List (Option ℕ) → ℕ
variable_count variable = length (filter_map (λ v. v) variable)

-- the variables of a cone: numbered from 1 in the order of wires, both parts of a gate with one have one, and the gates are
-- as a circuit keeps them
pub record AreVariables (gates : List Gate) (variable : List (Option ℕ)) (count : ℕ) : Type 0 where
  pub size : length variable ≡ length gates
  pub numbers : filter_map (λ v. v) variable ≡ range_with_len 1 count
  pub left : (k : ℕ) (a b : Lit) → IsSome (variable_of variable (suc k)) → gate_on gates (suc k) ≡ Some (And a b) → IsSome (variable_of variable a.wire)
  pub right : (k : ℕ) (a b : Lit) → IsSome (variable_of variable (suc k)) → gate_on gates (suc k) ≡ Some (And a b) → IsSome (variable_of variable b.wire)
  pub gate : (k : ℕ) (g : Gate) → IsSome (variable_of variable (suc k)) → gate_on gates (suc k) ≡ Some g → IsGateAt gates k g

-- the wire of the root has a variable, unless it is the constant
abbrev pub HasRootVariable : List (Option ℕ) → Lit → Type 0
HasRootVariable variable root = 0 < root.wire → IsSomeAnd (variable_of variable root.wire) (λ n. (0 < n) × (n < 2 ^ 31))

-- ---- clauses

-- the clauses that say that a literal holds exactly where two others do
abbrev pub conjunction_clauses : ℤ → ℤ → ℤ → List (List ℤ)
conjunction_clauses both left right =
    (left ∷ neg_ℤ both ∷ []) ∷ (right ∷ neg_ℤ both ∷ []) ∷ (neg_ℤ left ∷ neg_ℤ right ∷ both ∷ []) ∷ []
