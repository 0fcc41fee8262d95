-- Numbers as texts.
use Rattle.std.proofs.Common.{◌≡◌, ◌<◌, ◌^◌, ◌&&◌, ℕ, Bool, true, false, true≢false, refl, sym, arith, length, None, Some, Err, rules}
use Rattle.std.specs.Prelude.{if◌then◌else◌, nat_le, nat_lt}
use Rattle.std.specs.Char.{is_ascii_digit}
use Rattle.std.specs.List.{list_all}
use Rattle.std.specs.Str.Parse.{ParsesUnsigned, digits_value}
use Rattle.std.proofs.lemmas.Bool.{leb-true, ltb-true}
use Rattle.std.proofs.lemmas.Str.Parse.{IsDigitsTest, IsNumeralModel, numerals_by_value, parse_digits}
use Rattle.command_words.specs.Reading.{Text}
use Rattle.command_words.specs.Request.{number_in}

both : (a b : Bool) → (a && b) ≡ true → (a ≡ true) × (b ≡ true)
both true b e = (refl, e)
both false b e = absurd (true≢false (sym e))

second_part : (x : ℕ) (a b c : Bool) → None ≡ (if a && (b && (c && false)) then Some x else None)
second_part x true true true = refl
second_part x true true false = refl
second_part x true false c = refl
second_part x false b c = refl

tells : IsDigitsTest (λ ds. list_all is_ascii_digit ds ≡ true)
tells = search rules

own : IsNumeralModel (λ ds. list_all is_ascii_digit ds ≡ true) (digits_value 10)
own = numerals_by_value _ tells

abbrev pub IsShort : Text → Type 0
IsShort text = (nat_le (length text) 10 && list_all is_ascii_digit text) ≡ true

-- a text of digits that isn't read as a `u32` is no number of a range
pub number_in-unread : {E : Type 0} (least most : ℕ) (text : Text) (e : E) → most < 2 ^ 32 → IsShort text → ParsesUnsigned 32 10 text (Err e)
    → None ≡ number_in least most text
number_in-unread {E} least most text e fits short h = first (nat_lt 0 (length text)) refl
  where
    parts : (nat_le (length text) 10 ≡ true) × (list_all is_ascii_digit text ≡ true)
    parts = both (nat_le (length text) 10) (list_all is_ascii_digit text) short

    large : (0 < length text) × (digits_value 10 text < 2 ^ 32) → ⊥
    large = parse_digits own 32 text (Err e) h parts.1

    third : (b : Bool) → nat_le least (digits_value 10 text) ≡ b → nat_le (digits_value 10 text) most ≡ false → None ≡ number_in least most text
    third true f g = rw (f, g) (second_part (digits_value 10 text) (nat_lt 0 (length text)) (nat_le (length text) 10) (list_all is_ascii_digit text))
    third false f g = rw f (second_part (digits_value 10 text) (nat_lt 0 (length text)) (nat_le (length text) 10) (list_all is_ascii_digit text))

    second : (c : Bool) → nat_le (digits_value 10 text) most ≡ c → nat_lt 0 (length text) ≡ true → None ≡ number_in least most text
    second false g f = third (nat_le least (digits_value 10 text)) refl g
    second true g f = absurd (large (ltb-true 0 (length text) f, omega (arith, leb-true (digits_value 10 text) most g)))

    first : (b : Bool) → nat_lt 0 (length text) ≡ b → None ≡ number_in least most text
    first false f = rw f refl
    first true f = second (nat_le (digits_value 10 text) most) refl f
