-- A set of literals, as a table with a mark for each.
use Rattle.std.specs.Prelude.{◌≡◌, ℕ, ℤ, Bool, false, List, nat_lt, slice_index_or}
use Rattle.std.specs.List.{list_all}
use Rattle.std.specs.Option.{option_map_or}
use Rattle.cnf.specs.declared.literal_marks.places.Places.{Places}
use Rattle.cnf.specs.literal_marks.Places.{place_of}

-- whether a literal is marked
abbrev pub marked : Places → List Bool → ℤ → Bool
marked places marks x = option_map_or (λ i. slice_index_or marks i false) (place_of places x) false

-- no literal is marked
abbrev pub IsClear : Places → List Bool → Type 0
IsClear places marks = (x : ℤ) → marked places marks x ≡ false

-- whether a literal has a place in a table of this size
abbrev pub has_place : Places → ℕ → ℤ → Bool
has_place places size x = option_map_or (λ i. nat_lt i size) (place_of places x) false

-- whether each literal of a clause has one
abbrev pub has_places : Places → ℕ → List ℤ → Bool
has_places places size clause = list_all (has_place places size) clause
