-- Literals named anew by a table.
use Rattle.std.specs.Prelude.{◌≡◌, ℕ, zero, suc, ◌<◌, ◌^◌, ℤ, pos, negsuc, neg_ℤ, List, [], ◌∷◌, Option, IsSomeAnd, if◌then◌else◌}
use Rattle.circuit.specs.declared.lit.Lit.{Lit}
use Rattle.clause_form.specs.Encoding.{variable_of}

-- a literal of the number that a table has for another one's, with its sign
abbrev pub IsNamed : List (Option ℕ) → ℤ → ℤ → Type 0
IsNamed table (pos zero) y = ⊥
IsNamed table (pos (suc k)) y = IsSomeAnd (variable_of table (suc k)) (λ n. (0 < n) × (n < 2 ^ 31) × (y ≡ pos n))
IsNamed table (negsuc k) y = IsSomeAnd (variable_of table (suc k)) (λ n. (0 < n) × (n < 2 ^ 31) × (y ≡ neg_ℤ (pos n)))

-- so with all literals of a clause, in order
abbrev pub AreNamed : List (Option ℕ) → List ℤ → List ℤ → Type 0
AreNamed table [] [] = Unit {0}
AreNamed table [] (y ∷ ys) = ⊥
AreNamed table (x ∷ xs) [] = ⊥
AreNamed table (x ∷ xs) (y ∷ ys) = IsNamed table x y × AreNamed table xs ys

-- the number of a literal of a circuit
abbrev pub lit_number : Lit → ℤ
lit_number l = if l.negated then neg_ℤ (pos l.wire) else pos l.wire
