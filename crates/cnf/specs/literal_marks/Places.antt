-- Where literals have their places in a table of marks.
use Rattle.std.specs.Prelude.{ℕ, zero, suc, ℤ, List, [], ◌∷◌, Option, Some, None, option_map, if◌then◌else◌}
use Rattle.std.specs.Ordering.{int_eq}
use Rattle.cnf.specs.Clauses.{literal_key}
use Rattle.cnf.specs.declared.literal_marks.places.Places.{Places}
use Rattle.cnf.specs.declared.literal_marks.places.Places.TheVariants.{ByKey, Listed}

-- where a literal stands among these
abbrev pub place_in : List ℤ → ℤ → Option ℕ
place_in [] x = None
place_in (y ∷ ys) x = if int_eq y x then Some zero else option_map (λ i. suc i) (place_in ys x)

-- the place of a literal, if it has one
abbrev pub place_of : Places → ℤ → Option ℕ
place_of ByKey x = Some (literal_key x)
place_of (Listed all) x = place_in all x
