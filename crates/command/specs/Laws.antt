-- What follows from the definitions of measuring and of statuses.
use Rattle.std.specs.Prelude.{◌≡◌, ℕ, ◌-◌, ◌<◌, Bool, true, false, ◌&&◌, nat_lt, List, [], ◌∷◌, map, Some, slice_get, take}
use Rattle.std.specs.List.{list_any}
use Rattle.goals.specs.declared.answer.Answer.TheVariants as answer
use Rattle.measurer.specs.Firsts.{has_number}
use Rattle.fq_core.specs.Code.{code_table}
use Rattle.command.specs.Measure.{answer_of}
use Rattle.command.specs.Refusal.{status_rows}

-- an answer names an input that hits the goal, and none with a lower number does
abbrev pub CoveredByTheFirst : Type 0
CoveredByTheFirst =
    (hits : List (List ℕ)) (goal input : ℕ) → answer_of hits goal ≡ answer.Covered input →
    (goals : List ℕ) × (0 < input) × (slice_get hits (input - 1) ≡ Some goals) × (has_number goal goals ≡ true)
    × (list_any (has_number goal) (take (input - 1) hits) ≡ false)

-- a goal is missed where no input hits it
abbrev pub MissedByAll : Type 0
MissedByAll = (hits : List (List ℕ)) (goal : ℕ) → answer_of hits goal ≡ answer.Missed → list_any (has_number goal) hits ≡ false

-- a list of numbers rises
abbrev pub rises : List ℕ → Bool
rises [] = true
rises (n ∷ []) = true
rises (n ∷ m ∷ more) = nat_lt n m && rises (m ∷ more)

-- the rows of statuses are one for each code of the table of codes, and no code is there twice
pub record OneStatusForEachCode : Type 0 where
  pub same : map (λ row. row.0) status_rows ≡ map (λ row. row.0) code_table
  pub once : rises (map (λ row. row.0) code_table) ≡ true
