-- The cells of new frames.
use Rattle.std.specs.Prelude.{ℕ, ◌+◌, ◌-◌, List, ◌∷◌, ◌++◌, length, replicate}

-- the cells of a new frame that has so many: the result, the words, and zeros
abbrev pub new_cells : ℕ → List ℕ → List ℕ
new_cells count words = 0 ∷ (words ++ replicate (count - (length words + 1)) 0)
