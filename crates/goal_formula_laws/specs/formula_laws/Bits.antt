-- The highest bit in which two numbers differ.
use Rattle.std.specs.Prelude.{◌≡◌, ℕ, ◌<◌, Bool, true, false, List, length, slice_index_or}
use Rattle.std.specs.Int.{bit_at}

-- bit k is the highest, of as many bits, in which two numbers differ, and the second has it
pub record DifferAt (width a b k : ℕ) : Type 0 where
  pub within : k < width
  pub unset : bit_at a k ≡ 0
  pub set : bit_at b k ≡ 1
  pub above : (i : ℕ) → k < i → i < width → bit_at a i ≡ bit_at b i

-- the same of two rows of bits, the lowest first
pub record RowsDifferAt (xs ys : List Bool) (k : ℕ) : Type 0 where
  pub within : k < length xs
  pub unset : slice_index_or xs k false ≡ false
  pub set : slice_index_or ys k false ≡ true
  pub above : (i : ℕ) → k < i → i < length xs → slice_index_or xs i false ≡ slice_index_or ys i false
