-- Numbers in decimal, as certificates write them.
use Rattle.std.specs.Prelude.{◌≡◌, ℕ, zero, suc, ◌+◌, ◌<◌, ◌^◌, ℤ, pos, negsuc, Bool, true, false, ◌&&◌, nat_le, nat_lt, Option, None, Some, if◌then◌else◌, List, [], ◌∷◌, ◌++◌, nat_eq, codes}
use Rattle.std.specs.Fmt.{signed_decimal}
use Rattle.std.specs.List.{flat_map, list_any}
use Rattle.fq_core.specs.Word.{word_of_text}
use Rattle.fq_core.specs.declared.word.WordText.{WordText}
use Rattle.fq_core.specs.declared.word.WordText.TheVariants as word

-- numbers that certificates can have: less than 2 ^ 32, but for the sign
abbrev pub IsSmall : ℤ → Type 0
IsSmall (pos n) = n < 2 ^ 32
IsSmall (negsuc n) = n + 1 < 2 ^ 32

abbrev pub AreSmall : List ℤ → Type 0
AreSmall [] = Unit {0}
AreSmall (z ∷ zs) = IsSmall z × AreSmall zs

-- whether a text begins as a number without leading zeros does
abbrev pub begins : List ℕ → Bool
begins [] = false
begins (c ∷ []) = nat_le 48 c && nat_le c 57
begins (c ∷ d ∷ ds) = nat_le 49 c && nat_le c 57

-- the number below 2 ^ 32 of a word without leading zeros, by what the word says
abbrev pub small_of : WordText → Option ℕ
small_of (word.Number value) = if nat_lt value (2 ^ 32) then Some value else None
small_of word.NotNumber = None
small_of word.OutOfRange = None

abbrev pub natural_value : List ℕ → Option ℕ
natural_value text = if begins text then small_of (word_of_text text) else None

-- the negation of a number that isn't 0
abbrev pub negative_of : Option ℕ → Option ℤ
negative_of None = None
negative_of (Some zero) = None
negative_of (Some (suc n)) = Some (negsuc n)

-- whether a byte is in a text
abbrev pub has_byte : ℕ → List ℕ → Bool
has_byte byte text = list_any (λ b. nat_eq b byte) text

-- numbers, each with a space after it
abbrev pub numbers_text : List ℤ → List ℕ
numbers_text zs = flat_map (λ z. signed_decimal z ++ 32 ∷ []) zs

-- numbers, each with a space after it, and 0
abbrev pub row_text : List ℤ → List ℕ
row_text zs = numbers_text zs ++ codes "0"

-- whether a line is a row, and of which numbers
abbrev pub IsRow : List ℕ → Bool → List ℤ → Type 0
IsRow line true numbers = AreSmall numbers × (line ≡ row_text numbers)
IsRow line false numbers = (zs : List ℤ) → AreSmall zs → line ≡ row_text zs → ⊥
