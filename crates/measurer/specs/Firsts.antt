-- The first of several runs that hits a goal.
use Rattle.std.specs.Prelude.{ℕ, zero, suc, ◌==◌, Bool, List, Option, Some, None}
use Rattle.std.specs.List.{list_any, position_from}

abbrev pub has_number : ℕ → List ℕ → Bool
has_number goal hits = list_any (λ n. n == goal) hits

-- the number, from 1, of the first list that has the goal
abbrev pub first_hit : List (List ℕ) → ℕ → Option ℕ
first_hit lists goal = position_from (has_number goal) 1 lists

-- a number from 1, or 0 for none
abbrev pub or_none : ℕ → Option ℕ
or_none zero = None
or_none (suc n) = Some (suc n)
