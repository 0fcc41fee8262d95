-- Assignments and worlds, where `variable` lists the variables of a circuit's wires from 1 on.
use Rattle.std.specs.Prelude.{◌≡◌, ℕ, ◌-◌, Bool, false, List, [], ◌∷◌, drop, slice_index_or, Option, None, Some}
use Rattle.std.specs.Option.{option_map_or}
use Rattle.circuit.specs.declared.lit.Gate.{Gate}
use Rattle.circuit.specs.declared.lit.Gate.TheVariants.{Input, And}
use Rattle.circuit.specs.Truth.{World}
use Rattle.circuit.specs.Wires.{held}
use Rattle.clause_form.specs.Cone.{gate_on}
use Rattle.clause_form.specs.Encoding.{variable_of}

-- the world of an assignment: each input is what its variable is, and no where it has none
abbrev pub world_of : List Gate → List (Option ℕ) → (ℕ → Bool) → World
world_of [] variable value = []
world_of (g ∷ gates) [] value = []
world_of (Input number ∷ gates) (v ∷ variable) value = option_map_or value v false ∷ world_of gates variable value
world_of (And a b ∷ gates) (v ∷ variable) value = world_of gates variable value

-- what the wires hold that have a variable, in the order of wires, where `wires` has what all of them hold from wire 1 on
abbrev pub values_of : List (Option ℕ) → List Bool → List Bool
values_of [] wires = []
values_of (v ∷ variable) [] = []
values_of (None ∷ variable) (b ∷ wires) = values_of variable wires
values_of (Some n ∷ variable) (b ∷ wires) = b ∷ values_of variable wires

-- the assignment of a world: each variable is what its wire holds
abbrev pub assignment_of : List Gate → List (Option ℕ) → World → ℕ → Bool
assignment_of gates variable world n = slice_index_or (values_of variable (drop 1 (held gates world))) (n - 1) false

-- an assignment gives the variable of each input what the world has there
abbrev pub AgreesOnInputs : List Gate → List (Option ℕ) → (ℕ → Bool) → World → Type 0
AgreesOnInputs gates variable value world =
    (wire number n : ℕ) → gate_on gates wire ≡ Some (Input number) → variable_of variable wire ≡ Some n
    → value n ≡ slice_index_or world number false

-- an assignment gives each variable what its wire holds in the world
abbrev pub AgreesOnWires : List Gate → List (Option ℕ) → (ℕ → Bool) → World → Type 0
AgreesOnWires gates variable value world =
    (wire n : ℕ) → variable_of variable wire ≡ Some n → value n ≡ slice_index_or (held gates world) wire false
