-- Numbers as they are written are read again.
use Rattle.std.proofs.Common.{◌≡◌, ℕ, zero, suc, ◌-◌, ◌<◌, ◌≤◌, ◌^◌, ◌%◌, Bool, true, false, List, [], ◌∷◌, length, get_or, refl, ◌∙◌, ap, arith, rules, All, ⊎_elim, pos, negsuc}
use Rattle.std.specs.Prelude.{◌==◌, ◌&&◌, not, nat_eq, nat_lt, Some}
use Rattle.std.specs.Char.{is_ascii_digit}
use Rattle.std.specs.Fmt.{decimal, signed_decimal}
use Rattle.std.specs.List.{list_all}
use Rattle.std.specs.Str.Parse.{AllDigits, digits_value}
use Rattle.std.proofs.lemmas.Bool.Decides.{Decides-ltb, nat_tests}
use Rattle.std.proofs.lemmas.Fmt.{decimal_digit, decimal_is_IsNumeral, decimal_nonempty, digits_decimal, digits_value-decimal, first_decimal}
use Rattle.std.proofs.lemmas.Int.{ints}
use Rattle.std.proofs.lemmas.List.Elements.{All-cons, All-nil}
use Rattle.std.proofs.lemmas.Str.Parse.{IsNumeralModel, digit_from_value, numerals_by_value}
use Rattle.std.proofs.Math.Nat.{mod-eq_of_lt}
use Rattle.fq_core.specs.Word.{is_digits, word_of_number, word_of_text}
use Rattle.fq_core.specs.declared.word.WordText.TheVariants as word
use Rattle.c_values.specs.declared.kinds.Kind.{Kind}
use Rattle.c_values.specs.Kind.{number_of, reading, twos_complement}
use Rattle.c_values.proofs.Fitting.{twos_cases}
use Rattle.trace_file.specs.Form.{edge_in, is_plain, word_in}

own : IsNumeralModel (λ ds. list_all is_ascii_digit ds ≡ true) (digits_value 10)
own = numerals_by_value _ (search rules)

-- ---- what a decimal says

is_digits-decimal : (n : ℕ) → n < 2 ^ 64 → is_digits (decimal n) ≡ true
is_digits-decimal n h =
    let some : nat_lt 0 (length (decimal n)) ≡ true = (Decides-ltb 0 (length (decimal n))).1 (decimal_nonempty n h) in
    rw (some, digits_decimal own n h) refl

-- it begins with a digit that isn't 0
abbrev Begins : List ℕ → Type 0
Begins ds = (0 < length ds) × (48 < get_or ds 0 0)

begins-decimal : (n : ℕ) → suc n < 2 ^ 64 → Begins (decimal (suc n))
begins-decimal n h = (decimal_nonempty (suc n) h, first_decimal (suc n) (omega arith) h)

other_byte : (a b : ℕ) → a < b → nat_eq a b ≡ false
other_byte a b h = grind (arith, nat_tests)

plain_begins : (ds : List ℕ) → Begins ds → is_plain ds ≡ true
plain_begins [] h = absurd (omega (arith, h.0))
plain_begins (c ∷ cs) h = rw (other_byte 48 c h.1, other_byte 45 c (omega (arith, h.1))) refl

plain_minus : (ds : List ℕ) → Begins ds → is_plain (45 ∷ ds) ≡ true
plain_minus [] h = absurd (omega (arith, h.0))
plain_minus (c ∷ cs) h = rw (other_byte 48 c h.1) refl

word_begins : (ds : List ℕ) → Begins ds → is_digits ds ≡ true → word_of_text ds ≡ word_of_number (pos (digits_value 10 ds))
word_begins [] h d = absurd (omega (arith, h.0))
word_begins (c ∷ cs) h d = rw (other_byte 45 c (omega (arith, h.1)), d) refl

word_of_small : (n : ℕ) → n < 2 ^ 64 → word_of_number (pos n) ≡ word.Number n
word_of_small n h =
    let fits : nat_lt n (2 ^ 64) ≡ true = (Decides-ltb n (2 ^ 64)).1 h in
    let same : n % 2 ^ 64 ≡ n = mod-eq_of_lt h in
    rw (fits, same) refl

pub word_in-decimal : (n : ℕ) → n < 2 ^ 64 → word_in (decimal n) ≡ Some n
word_in-decimal zero h = rw (decimal_digit 0 (omega arith)) refl
word_in-decimal (suc n) h =
    let begins = begins-decimal n h in
    let says : word_of_text (decimal (suc n)) ≡ word.Number (suc n) = word_begins (decimal (suc n)) begins (is_digits-decimal (suc n) h) ∙ rw (digits_value-decimal own (suc n) h) (word_of_small (suc n) h) in
    rw (plain_begins (decimal (suc n)) begins, says) refl

word_of_negative : (m : ℕ) → m < 2 ^ 63 → word_of_number (negsuc m) ≡ word.Number (2 ^ 64 - 1 - m)
word_of_negative m h =
    let fits : nat_lt m (2 ^ 63) ≡ true = (Decides-ltb m (2 ^ 63)).1 h in
    let same : m % 2 ^ 64 ≡ m = mod-eq_of_lt (omega arith) in
    rw (fits, same) refl

word_minus : (ds : List ℕ) (m : ℕ) → is_digits ds ≡ true → digits_value 10 ds ≡ suc m → word_of_text (45 ∷ ds) ≡ word_of_number (negsuc m)
word_minus ds m d v = rw (d, v) refl

word_in-negative : (m : ℕ) → m < 2 ^ 63 → word_in (45 ∷ decimal (suc m)) ≡ Some (2 ^ 64 - 1 - m)
word_in-negative m h =
    let says : word_of_text (45 ∷ decimal (suc m)) ≡ word.Number (2 ^ 64 - 1 - m) = word_minus (decimal (suc m)) m (is_digits-decimal (suc m) (omega arith)) (digits_value-decimal own (suc m) (omega arith)) ∙ word_of_negative m h in
    rw (plain_minus (decimal (suc m)) (begins-decimal m (omega arith)), says) refl

pub edge_in-decimal : (n : ℕ) → n < 2 ^ 32 → edge_in (decimal n) ≡ Some n
edge_in-decimal n h =
    let fits : nat_lt n (2 ^ 32) ≡ true = (Decides-ltb n (2 ^ 32)).1 h in
    rw (word_in-decimal n (omega arith), fits) refl

-- ---- the bytes of a decimal

-- the byte is another one
abbrev pub Lacks : ℕ → ℕ → Type 0
Lacks mark byte = (byte == mark) ≡ false

-- of bytes that are written out
pub lacks_by : (mark : ℕ) (text : List ℕ) → list_all (λ other. not (other == mark)) text ≡ true → All (Lacks mark) text
lacks_by mark [] test = All-nil (Lacks mark)
lacks_by mark (byte ∷ text) test = by (byte == mark) refl (lacks_by mark text) test
  where
    by : (b : Bool) → (byte == mark) ≡ b → (list_all (λ other. not (other == mark)) text ≡ true → All (Lacks mark) text) → (not b && list_all (λ other. not (other == mark)) text) ≡ true
        → All (Lacks mark) (byte ∷ text)
    by true is later never = cc
    by false is later rest = All-cons (Lacks mark) byte text is (later rest)

module _ (mark : ℕ) (low : mark < 45) where
  higher : (byte : ℕ) → 45 ≤ byte → Lacks mark byte
  higher byte h = grind (arith, nat_tests)

  digits_lack : (ds : List ℕ) → AllDigits 10 ds → All (Lacks mark) ds
  digits_lack [] d = All-nil (Lacks mark)
  digits_lack (c ∷ cs) d =
      let range = digit_from_value c d.0 in
      All-cons (Lacks mark) c cs (higher c (omega (arith, range.0))) (digits_lack cs d.1)

  pub decimal_lacks : (n : ℕ) → n < 2 ^ 64 → All (Lacks mark) (decimal n)
  decimal_lacks n h = digits_lack (decimal n) (decimal_is_IsNumeral n h).0.1

  negative_lacks : (m : ℕ) → m < 2 ^ 63 → All (Lacks mark) (45 ∷ decimal (suc m))
  negative_lacks m h = All-cons (Lacks mark) 45 (decimal (suc m)) (higher 45 (omega arith)) (decimal_lacks (suc m) (omega arith))

-- ---- the number that a word stands for in a kind

-- it is written as one of these, and read as the word
pub record IsWritten (value : ℕ) (text : List ℕ) : Type 0 where
  pub reads : word_in text ≡ Some value
  pub lacks : (mark : ℕ) → mark < 45 → All (Lacks mark) text

decimal_written : (n : ℕ) → n < 2 ^ 64 → IsWritten n (decimal n)
decimal_written n h = record { reads = word_in-decimal n h; lacks = λ mark low. decimal_lacks mark low n h }

negative_written : (m value : ℕ) → m < 2 ^ 63 → 2 ^ 64 - 1 - m ≡ value → IsWritten value (45 ∷ decimal (suc m))
negative_written m value h is = record { reads = word_in-negative m h ∙ ap Some is; lacks = λ mark low. negative_lacks mark low m h }

twos_written : (value : ℕ) → value < 2 ^ 64 → IsWritten value (signed_decimal (twos_complement 64 value))
twos_written value h =
    ⊎_elim
    (λ c. rw c.1 (decimal_written value h))
    (λ c. let high = c.0 in
    let is : twos_complement 64 value ≡ negsuc (2 ^ 64 - 1 - value) = (let f = c.1 in omega (arith, ints)) in
    rw is (negative_written (2 ^ 64 - 1 - value) value (omega arith) (omega arith)))
    (twos_cases 64 value)

reading_written : (signed : Bool) (value : ℕ) → value < 2 ^ 64 → IsWritten value (signed_decimal (reading signed 64 value))
reading_written true value h = twos_written value h
reading_written false value h = decimal_written value h

pub value_written : (kind : Kind) (value : ℕ) → value < 2 ^ 64 → IsWritten value (signed_decimal (number_of kind value))
unfolding number_of
value_written kind value h = reading_written kind.signed value h
