-- Resolution (Robinson 1965), on clauses as sets of literals.
use Rattle.std.specs.Prelude.{◌≡◌, ℤ, neg_ℤ, Bool, true, false, not, ◌&&◌, ◌||◌, List, Option, None, Some}
use Rattle.std.specs.Ordering.{int_eq}
use Rattle.cnf.specs.Clauses.{IsClause, has_literal}

-- whether the resolvent of two clauses exists: the pivot is in the left one, and its negation in the right one
abbrev pub can_resolve : (ℤ → Bool) → ℤ → (ℤ → Bool) → Bool
can_resolve left pivot right = left pivot && right (neg_ℤ pivot)

-- whether a literal is in the resolvent: the left one without the pivot, joined with the right one without its negation
abbrev pub resolvent : (ℤ → Bool) → ℤ → (ℤ → Bool) → ℤ → Bool
resolvent left pivot right x = (left x && not (int_eq x pivot)) || (right x && not (int_eq x (neg_ℤ pivot)))

-- the resolvent of two clauses as a clause, or none where it doesn't exist
abbrev pub IsResolvent : List ℤ → ℤ → List ℤ → Option (List ℤ) → Type 0
IsResolvent left pivot right None = can_resolve (has_literal left) pivot (has_literal right) ≡ false
IsResolvent left pivot right (Some clause) =
    (can_resolve (has_literal left) pivot (has_literal right) ≡ true) × IsClause clause
    × ((x : ℤ) → has_literal clause x ≡ resolvent (has_literal left) pivot (has_literal right) x)
