-- Sets of the places of a path, as one truth value for each place, and where segments end.
use Rattle.std.specs.Prelude.{◌≡◌, ℕ, ◌<◌, ◌≤◌, ◌↔◌, ◌||◌, Bool, true, false, Option, List, [], ◌∷◌, length, slice_index_or}
use Rattle.patterns.specs.Match.{Turns, AtMost}

abbrev pub IsMarked : List Bool → ℕ → Type 0
IsMarked places k = slice_index_or places k false ≡ true

-- a segment that begins at a place of the set ends at j
abbrev pub EndsAt : (ℕ → ℕ → Type 0) → List Bool → ℕ → Type 0
EndsAt Segment starts j = (i : ℕ) × (IsMarked starts i × Segment i j)

-- the second set has the places at which segments end that begin at places of the first
pub record EndsOf (Segment : ℕ → ℕ → Type 0) (starts ends : List Bool) : Type 0 where
  pub size : length ends ≡ length starts
  pub marked : (j : ℕ) → j < length ends → IsMarked ends j ↔ EndsAt Segment starts j

-- at least so many segments one after another, and at most so many
abbrev pub Rounds : (ℕ → ℕ → Type 0) → ℕ → Option ℕ → ℕ → ℕ → Type 0
Rounds One least most i j = (c : ℕ) × ((least ≤ c) × (AtMost c most × Turns One c i j))

-- the places of either set
abbrev pub union : List Bool → List Bool → List Bool
union [] ys = []
union (x ∷ xs) [] = []
union (x ∷ xs) (y ∷ ys) = (x || y) ∷ union xs ys
