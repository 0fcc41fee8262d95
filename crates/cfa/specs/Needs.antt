-- What the variables that a scope lists ask of the cells that they name. No public contract rests on it.
use Rattle.std.specs.Prelude.{◌≡◌, ℕ, ◌+◌, nat_le, List, [], ◌∷◌, Option}
use Rattle.std.specs.List.{list_all, flat_map}
use Rattle.c_values.specs.Kind.{is_kind}
use Rattle.cfa.specs.declared.parts.Variable.{Variable}
use Rattle.cfa.specs.declared.parts.VariablePlace.{VariablePlace}
use Rattle.cfa.specs.declared.parts.VariablePlace.TheVariants as place
use Rattle.cfa.specs.declared.variables.Lent.{Lent}
use Rattle.cfa.specs.declared.variables.Needs.{Needs}
use Rattle.cfa.specs.Rules.{cell_count}

-- where the cells of a global end, and 0 for another variable
abbrev pub end_in_globals : Option ℕ → VariablePlace → ℕ
end_in_globals length (place.Global first) = first + cell_count length
end_in_globals length (place.Local first) = 0
end_in_globals length (place.Lent parameter) = 0

-- where the cells of a local variable end, and 0 for another one
abbrev pub end_in_frame : Option ℕ → VariablePlace → ℕ
end_in_frame length (place.Global first) = 0
end_in_frame length (place.Local first) = first + cell_count length
end_in_frame length (place.Lent parameter) = 0

-- the array of the caller's that a variable names, if it does
abbrev pub lent_of : Option ℕ → VariablePlace → List Lent
lent_of length (place.Global first) = []
lent_of length (place.Local first) = []
lent_of length (place.Lent parameter) = record { parameter = parameter; length = length } ∷ []

-- These are the needs of the variables: whether all are of kinds, how many cells of globals and of a frame there must
-- be, and the arrays that they name.
pub record AreNeeds (list : List Variable) (needs : Needs) : Type 0 where
  pub kinds : needs.kinds ≡ list_all (λ (v : Variable). is_kind v.kind) list
  pub globals : (n : ℕ) → nat_le needs.globals n ≡ list_all (λ (v : Variable). nat_le (end_in_globals v.length v.place) n) list
  pub cells : (n : ℕ) → nat_le needs.cells n ≡ list_all (λ (v : Variable). nat_le (end_in_frame v.length v.place) n) list
  pub lent : needs.lent ≡ flat_map (λ (v : Variable). lent_of v.length v.place) list
