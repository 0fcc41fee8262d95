-- A reduced suite: an irredundant part of the inputs that hits every goal that some input hits.
use Rattle.std.specs.Prelude.{ℕ, ◌+◌, ◌||◌, Bool, List, [], ◌∷◌, ◌++◌, map, if◌then◌else◌}
use Rattle.std.specs.List.{list_all, list_any}
use Rattle.measurer.specs.Firsts.{has_number}

-- the goal is in one of the lists
abbrev pub is_hit : List (List ℕ) → ℕ → Bool
is_hit lists goal = list_any (has_number goal) lists

-- The inputs are tried from the last to the first, and one is dropped where each of its goals is also hit by another
-- that is still kept: by an earlier one, which is tried later, or by a later one that was kept.
--
-- Given are the goal lists of the inputs before number n, and of those from n on; told are the numbers and the goal
-- lists of those from n on that are kept.
abbrev pub kept_from : List (List ℕ) → ℕ → List (List ℕ) → List (ℕ × List ℕ)
kept_from earlier n [] = []
kept_from earlier n (goals ∷ rest) =
    let later = kept_from (earlier ++ goals ∷ []) (n + 1) rest in
    if list_all (λ goal. is_hit earlier goal || is_hit (map (λ input. input.1) later) goal) goals then later
    else (n, goals) ∷ later

-- the numbers of the inputs that are kept, rising
abbrev pub kept_of : List (List ℕ) → List ℕ
kept_of hits = map (λ input. input.0) (kept_from [] 1 hits)
