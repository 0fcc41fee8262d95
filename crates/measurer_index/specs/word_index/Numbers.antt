-- Sets of numbers, as lists.
use Rattle.std.specs.Prelude.{ℕ, ◌↔◌, ◌⊎◌, List}
use Rattle.std.specs.List.{Contains}
use Rattle.std.specs.List.Sorted.{IsStrictlyIncreasing}

-- the second list has the numbers of the first and those of which this holds, and no other
abbrev pub Adds : (ℕ → Type 0) → List ℕ → List ℕ → Type 0
Adds P old new = (n : ℕ) → Contains new n ↔ (Contains old n ⊎ P n)

-- the same numbers, each once, rising
pub record IsRisingOf (numbers rising : List ℕ) : Type 0 where
  pub rises : IsStrictlyIncreasing rising
  pub same : (n : ℕ) → Contains rising n ↔ Contains numbers n
