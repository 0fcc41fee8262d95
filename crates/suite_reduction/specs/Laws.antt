-- What follows from the definition of the reduced suite.
use Rattle.std.specs.Prelude.{◌≡◌, ℕ, true, false, List, [], ◌∷◌, ◌++◌, map}
use Rattle.measurer.specs.Firsts.{has_number}
use Rattle.suite_reduction.specs.Suite.{is_hit, kept_from}

-- each goal that some input hits is hit by one that is kept
abbrev pub KeptHitAll : Type 0
KeptHitAll =
    (hits : List (List ℕ)) (goal : ℕ) → is_hit hits goal ≡ true → is_hit (map (λ input. input.1) (kept_from [] 1 hits)) goal ≡ true

-- each input that is kept hits a goal that no other input that is kept hits
abbrev pub KeptAreNeeded : Type 0
KeptAreNeeded =
    (hits : List (List ℕ)) (front back : List (ℕ × List ℕ)) (input : ℕ × List ℕ) → kept_from [] 1 hits ≡ front ++ input ∷ back →
    (goal : ℕ) × (has_number goal input.1 ≡ true)
    × (is_hit (map (λ kept. kept.1) front) goal ≡ false) × (is_hit (map (λ kept. kept.1) back) goal ≡ false)
