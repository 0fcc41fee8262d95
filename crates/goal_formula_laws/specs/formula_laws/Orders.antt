-- The order of inputs: the first difference decides.
use Rattle.std.specs.Prelude.{◌≡◌, ◌⊎◌, ℕ, ◌<◌, Bool, true, false, List, [], ◌∷◌, length, reverse, slice_index_or}
use Rattle.std.specs.List.{flat_map}

-- one list of numbers is before another as long: it has less where they first differ
abbrev pub IsBefore : List ℕ → List ℕ → Type 0
IsBefore [] ys = ⊥
IsBefore (x ∷ xs) [] = ⊥
IsBefore (x ∷ xs) (y ∷ ys) = (x < y) ⊎ ((x ≡ y) × IsBefore xs ys)

-- the bits of rows, each of which has its lowest bit first, in the order in which they decide: each row from its highest
abbrev pub bits_in_order : List (List Bool) → List Bool
bits_in_order rows = flat_map reverse rows

-- two lists of bits first differ at a place, where the second has the bit
pub record FirstDifferAt (xs ys : List Bool) (k : ℕ) : Type 0 where
  pub within : k < length xs
  pub unset : slice_index_or xs k false ≡ false
  pub set : slice_index_or ys k false ≡ true
  pub before : (i : ℕ) → i < k → slice_index_or xs i false ≡ slice_index_or ys i false
