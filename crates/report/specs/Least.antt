-- The line of the least input of a goal.
use Rattle.std.specs.Prelude.{ℕ, ◌==◌, List, [], ◌∷◌, ◌++◌, codes, reverse, if◌then◌else◌}
use Rattle.std.specs.Fmt.{decimal}
use Rattle.std.specs.List.{flat_map}
use Rattle.c_meaning.specs.declared.input.Input.{Input}

-- numbers of 64 bits, each after a space, without a sign
abbrev pub numbers_text : List ℕ → List ℕ
numbers_text numbers = flat_map (λ n. codes " " ++ decimal n) numbers

-- without the zeros at its front
abbrev pub without_first_zeros : List ℕ → List ℕ
without_first_zeros [] = []
without_first_zeros (n ∷ ns) = if n == 0 then without_first_zeros ns else n ∷ ns

-- up to the last number that isn't 0
abbrev pub without_last_zeros : List ℕ → List ℕ
without_last_zeros numbers = reverse (without_first_zeros (reverse numbers))

-- answers, where there are any
abbrev pub answers_text : List ℕ → List ℕ
answers_text [] = []
answers_text (first ∷ rest) = codes " answers" ++ numbers_text (first ∷ rest)

-- the input is the least that covers the goal of this number
abbrev pub least_text : ℕ → Input → List ℕ
least_text number input =
    codes "goal " ++ decimal number ++ codes " least args" ++ numbers_text input.words ++ answers_text (without_last_zeros input.answers) ++ codes "\n"

-- the goal of this number stays open
abbrev pub open_text : ℕ → List ℕ
open_text number = codes "goal " ++ decimal number ++ codes " open\n"
