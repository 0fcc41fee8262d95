-- Clauses over the wires of a circuit that hold in every world: the literal of a wire is its number, its negation the number
-- below 0.
use Rattle.std.specs.Prelude.{◌≡◌, ℕ, ℤ, Bool, true, false, List, Option, slice_index_or, unwrap_or}
use Rattle.circuit.specs.Truth.{World}
use Rattle.circuit.specs.Wires.{held}
use Rattle.circuit.specs.declared.lit.Gate.{Gate}
use Rattle.clause_form.specs.Encoding.{variable_of}
use Rattle.cnf.specs.Formulas.{is_true_clause}

-- what a wire holds in a world
abbrev pub wire_value : List Gate → World → ℕ → Bool
wire_value gates w wire = slice_index_or (held gates w) wire false

-- a clause over wires holds in every world
abbrev pub HoldsAlways : List Gate → List ℤ → Type 0
HoldsAlways gates clause = (w : World) → is_true_clause (wire_value gates w) clause ≡ true

-- what a variable's wire holds in a world, where `wires` lists the wires of the variables from 1 on
abbrev pub variable_value : List Gate → List (Option ℕ) → World → ℕ → Bool
variable_value gates wires w n = wire_value gates w (unwrap_or (variable_of wires n) 0)

-- a clause over variables holds in every world
abbrev pub IsKnown : List Gate → List (Option ℕ) → List ℤ → Type 0
IsKnown gates wires clause = (w : World) → is_true_clause (variable_value gates wires w) clause ≡ true
