-- What the parts of the code ask of each other: circuits of inputs alone, and words over them.
use Rattle.std.specs.Prelude.{◌≡◌, ℕ, zero, suc, ◌+◌, ◌<◌, ◌≤◌, ◌==◌, false, All, List, [], ◌∷◌, ◌++◌, length, pos, slice_index_or}
use Rattle.std.specs.Int.{bit_at}
use Rattle.circuit.specs.Sharing.{lit_of}
use Rattle.circuit.specs.Truth.{World}
use Rattle.circuit.specs.Wires.{IsWire, lit_holds}
use Rattle.circuit.specs.declared.lit.Gate.{Gate}
use Rattle.circuit.specs.declared.lit.Gate.TheVariants.{Input}
use Rattle.circuit.specs.declared.lit.Lit.{Lit}
use Rattle.c_values.specs.declared.kinds.Kind.{Kind}
use Rattle.c_values.specs.Kind.{wrapped}
use Rattle.bit_words.specs.Words.{IsWord, word_value}

-- the gates of a circuit of so many inputs and nothing else
unfoldable pub input_gates : ℕ → List Gate
input_gates zero = []
input_gates (suc n) = input_gates n ++ Input n ∷ []

-- 64 literals, of which the lowest so many are those of the wires behind the first so many, in their order. The others are
-- the constant, or are on these wires too
pub record HasInputs (first count : ℕ) (word : List Lit) : Type 0 where
  pub size : length word ≡ 64
  pub own : (k : ℕ) → k < count → (d : Lit) → slice_index_or word k d ≡ lit_of (first + k + 1)
  pub wires : (gates : List Gate) → first + count ≤ length gates → All (IsWire gates) word

-- The word of a kind whose bits are those of the wires behind the first so many: in each circuit that has them it is a word
-- of the kind, and where these wires hold the lowest bits of a number it is what the kind has of that number.
pub record IsInputWord (first : ℕ) (kind : Kind) (word : List Lit) : Type 0 where
  pub enough : kind.width ≤ length word
  pub own : (k : ℕ) → k < kind.width → (d : Lit) → slice_index_or word k d ≡ lit_of (first + k + 1)
  pub of_kind : (gates : List Gate) → first + kind.width ≤ length gates → IsWord gates kind word
  pub value : (gates : List Gate) (w : World) (v : ℕ) → ((k : ℕ) → k < kind.width → lit_holds gates (lit_of (first + k + 1)) w ≡ (bit_at v k == 1)) → word_value gates word w ≡ wrapped kind (pos v)

-- words of these kinds, the bits of each behind those of the one before
abbrev pub AreWordsOf : ℕ → List Kind → List (List Lit) → Type 0
AreWordsOf first [] [] = Unit {0}
AreWordsOf first [] (word ∷ words) = ⊥
AreWordsOf first (kind ∷ kinds) [] = ⊥
AreWordsOf first (kind ∷ kinds) (word ∷ words) = IsInputWord first kind word × AreWordsOf (first + kind.width) kinds words

-- the kind of answers: all patterns of 64 bits
abbrev pub answer_kind : Kind
answer_kind = record { width = 64; signed = false }
