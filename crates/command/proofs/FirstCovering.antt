-- An answer names the first input that hits its goal.
use Rattle.std.proofs.Common.{◌≡◌, ℕ, ◌-◌, ◌<◌, true, false, List, take, slice_get, Some, None, refl}
use Rattle.std.specs.Prelude.{Option}
use Rattle.std.specs.List.{list_any}
use Rattle.std.specs.Option.{option_map_or}
use Rattle.goals.specs.declared.answer.Answer.TheVariants as answer
use Rattle.measurer.specs.Firsts.{has_number}
use Rattle.suite.proofs.Firsts.{found, missing}
use Rattle.command.specs.Measure.{answer_of}

is_some : (o : Option ℕ) (input : ℕ) → option_map_or answer.Covered o answer.Missed ≡ answer.Covered input → o ≡ Some input
is_some None input is = cc
is_some (Some place) input is = let same : place ≡ input = cc in rw same refl

is_none : (o : Option ℕ) → option_map_or answer.Covered o answer.Missed ≡ answer.Missed → o ≡ None
is_none None is = refl
is_none (Some place) is = cc

pub covered_by_the_first : (hits : List (List ℕ)) (goal input : ℕ) → answer_of hits goal ≡ answer.Covered input
    → (goals : List ℕ) × (0 < input) × (slice_get hits (input - 1) ≡ Some goals) × (has_number goal goals ≡ true)
    × (list_any (has_number goal) (take (input - 1) hits) ≡ false)
covered_by_the_first hits goal input is =
    let there = found (has_number goal) 1 input hits (is_some _ input is) in
    (there.goals, there.from, there.here, there.passes, there.none_before)

pub missed_by_all : (hits : List (List ℕ)) (goal : ℕ) → answer_of hits goal ≡ answer.Missed → list_any (has_number goal) hits ≡ false
missed_by_all hits goal is = missing (has_number goal) 1 hits (is_none _ is)
