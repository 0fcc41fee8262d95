-- What the code keeps of the goals: who hits each of them first. No public clause needs it.
use Rattle.std.specs.Prelude.{ℕ, ◌||◌, Bool, true, false, List, map, nat_lt, if◌then◌else◌, slice_index_or as get_or}
use Rattle.std.specs.List.{list_all, position_from, range_with_len}
use Rattle.std.specs.Option.{option_map_or}
use Rattle.measurer.specs.Firsts.{has_number}
use Rattle.suite_reduction.specs.declared.first_hit.FirstHit.{FirstHit}
use Rattle.suite_reduction.specs.declared.first_hit.FirstHit.TheVariants as earliest

-- the first of these inputs that hits a goal; they are numbered from 1
abbrev pub first_hit : List (List ℕ) → ℕ → FirstHit
first_hit hits goal = option_map_or earliest.By (position_from (has_number goal) 1 hits) earliest.Never

-- the first hits of so many goals, numbered from 0
abbrev pub first_hits : List (List ℕ) → ℕ → List FirstHit
first_hits hits count = map (first_hit hits) (range_with_len 0 count)

abbrev pub is_found : FirstHit → Bool
is_found (earliest.By input) = true
is_found earliest.Never = false

-- each of these is one of so many goals, numbered from 0
abbrev pub are_goals : ℕ → List ℕ → Bool
are_goals count goals = list_all (λ goal. nat_lt goal count) goals

-- the first hit of a goal that this input hits, from the one before it
abbrev pub first_by : ℕ → FirstHit → FirstHit
first_by input earliest.Never = earliest.By input
first_by input (earliest.By earlier) = earliest.By earlier

-- the first hit of a goal, from the one before an input that hits these
abbrev pub marked : ℕ → List ℕ → ℕ → FirstHit → FirstHit
marked input goals goal before = if has_number goal goals then first_by input before else before

-- an input with a lower number hits the goal first
abbrev pub is_before : ℕ → FirstHit → Bool
is_before number (earliest.By input) = nat_lt input number
is_before number earliest.Never = false

-- by the first hits of all inputs, and by those of the later inputs that are kept, another input hits the goal as well
abbrev pub is_elsewhere : ℕ → List FirstHit → List FirstHit → ℕ → Bool
is_elsewhere number firsts later goal =
    is_before number (get_or firsts goal earliest.Never) || is_found (get_or later goal earliest.Never)
