-- Words: rows of 64 literals, the lowest bit first, and the pattern of 64 bits that a word is in a world.
use Rattle.std.specs.Prelude.{◌≡◌, ℕ, zero, suc, ◌+◌, ◌^◌, ◌≤◌, Bool, false, if◌then◌else◌, List, length, slice_index_or, All}
use Rattle.circuit.specs.Truth.{World, Extends}
use Rattle.circuit.specs.Bits.{at}
use Rattle.circuit.specs.Growth.{GrowsTo}
use Rattle.circuit.specs.Wires.{IsWire, lit_holds, input_count}
use Rattle.circuit.specs.declared.lit.Lit.{Lit}
use Rattle.circuit.specs.declared.lit.Gate.{Gate}
use Rattle.c_values.specs.declared.kinds.Kind.{Kind}
use Rattle.c_values.specs.Kind.{IsValue}

-- what a binary digit counts at its place
abbrev pub place_value : ℕ → Bool → ℕ
place_value n digit = if digit then 2 ^ n else 0

-- the number of the lowest n binary digits, digit k being 1 where the test holds of k
unfoldable pub number_below : ℕ → (ℕ → Bool) → ℕ
number_below zero digit = 0
number_below (suc n) digit = number_below n digit + place_value n (digit n)

-- bit k of a word in a world
unfoldable pub bit_of : List Gate → List Lit → World → ℕ → Bool
bit_of gates word w k = slice_index_or (at lit_holds gates word w) k false

-- the number of the lowest n bits of a word in a world
unfoldable pub low_value : ℕ → List Gate → List Lit → World → ℕ
low_value n gates word w = number_below n (bit_of gates word w)

-- the pattern of 64 bits that a word is in a world
unfoldable pub word_value : List Gate → List Lit → World → ℕ
word_value gates word w = low_value 64 gates word w

-- the word's literals are on wires of the circuit, and in every world it is a value of the kind
pub record IsWord (gates : List Gate) (kind : Kind) (word : List Lit) : Type 0 where
  pub wires : All (IsWire gates) word
  pub values : (w : World) → IsValue kind (word_value gates word w)

-- at most so many more gates, none of them an input, behind the old ones, and each older literal is a literal still and
-- holds what it held
pub record Grows (old new : List Gate) (most : ℕ) : Type 0 where
  pub grown : GrowsTo old new
  pub older : Extends IsWire lit_holds old new
  pub used : length new ≤ length old + most
  pub inputs : input_count new ≡ input_count old
