-- Literals and clauses. As in DIMACS the literal of variable n is the number n, and its negation is -n.
use Rattle.std.specs.Prelude.{ℕ, ◌+◌, ◌*◌, ◌<◌, ◌^◌, ℤ, pos, negsuc, Bool, List, [], ◌∷◌}
use Rattle.std.specs.Ordering.{int_eq}
use Rattle.std.specs.List.{list_any}

-- where a literal stands in the order: by its variable, the positive one first
abbrev pub literal_key : ℤ → ℕ
literal_key (pos n) = 2 * n
literal_key (negsuc n) = 2 * n + 3

-- a literal isn't 0, and its variable is below 2 ^ 31
abbrev pub IsLiteral : ℤ → Type 0
IsLiteral x = (0 < literal_key x) × (literal_key x < 2 ^ 32)

-- literals rise in this order, the first one standing after a place
abbrev pub RisesFrom : ℕ → List ℤ → Type 0
RisesFrom low [] = Unit {0}
RisesFrom low (x ∷ xs) = (low < literal_key x) × (literal_key x < 2 ^ 32) × RisesFrom (literal_key x) xs

-- a clause, as a list: its literals rise, so that none is there twice
abbrev pub IsClause : List ℤ → Type 0
IsClause xs = RisesFrom 0 xs

-- whether a literal is in a clause
abbrev pub has_literal : List ℤ → ℤ → Bool
has_literal clause x = list_any (λ y. int_eq y x) clause
