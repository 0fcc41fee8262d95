-- Numbers and the words that write them.
use Rattle.std.proofs.Common.{◌≡◌, ℕ, zero, suc, ◌<◌, ◌≤◌, ◌^◌, ◌%◌, Bool, true, false, List, [], ◌∷◌, length, get_or, refl, sym, ◌∙◌, ap, arith, rules, Option, None, Some}
use Rattle.std.specs.Prelude.{ℤ, pos, negsuc, ◌&&◌, nat_lt, nat_eq, if◌then◌else◌, MatchOption}
use Rattle.std.specs.Char.{is_ascii_digit}
use Rattle.std.specs.Fmt.{decimal, signed_decimal}
use Rattle.std.specs.List.{list_all}
use Rattle.std.specs.Str.Parse.{digits_value}
use Rattle.std.proofs.lemmas.Bool.Decides.{Decides-ltb, nat_tests}
use Rattle.std.proofs.lemmas.Fmt.{decimal_is_IsNumeral, decimal_digit, first_decimal, decimal-digits_value, digits_decimal, digits_value-decimal, decimal_nonempty, decimal_injective}
use Rattle.std.proofs.lemmas.Str.Parse.{IsNumeralModel, numerals_by_value, digit_at}
use Rattle.std.proofs.Math.Nat.{mod-eq_of_lt}
use Rattle.fq_core.specs.Word.{is_digits, word_of_text, word_of_number}
use Rattle.fq_core.specs.declared.word.WordText.{WordText}
use Rattle.fq_core.specs.declared.word.WordText.TheVariants as word
use Rattle.certificate.specs.Numbers.{IsSmall, begins, small_of, natural_value, negative_of}

own : IsNumeralModel (λ ds. list_all is_ascii_digit ds ≡ true) (digits_value 10)
own = numerals_by_value _ (search rules)

-- ---- words of decimals

begins_by : (ds : List ℕ) → 0 < length ds → 48 < get_or ds 0 0 → get_or ds 0 0 ≤ 57 → begins ds ≡ true
begins_by [] l h s = absurd (omega arith)
begins_by (c ∷ []) l h s = grind (arith, nat_tests)
begins_by (c ∷ d ∷ ds) l h s = grind (arith, nat_tests)

begins-decimal : (n : ℕ) → n < 2 ^ 64 → begins (decimal n) ≡ true
begins-decimal zero h = rw (decimal_digit 0 (omega arith)) refl
begins-decimal (suc n) h =
    let numeral = (decimal_is_IsNumeral (suc n) h).0 in
    begins_by (decimal (suc n)) numeral.0 (first_decimal (suc n) (omega arith) h) (digit_at (decimal (suc n)) 0 numeral.1 numeral.0).1

not_minus : (c : ℕ) (cs : List ℕ) → begins (c ∷ cs) ≡ true → nat_eq 45 c ≡ false
not_minus c [] b = grind (arith, nat_tests)
not_minus c (d ∷ ds) b = grind (arith, nat_tests)

word_plain : (ds : List ℕ) → begins ds ≡ true → is_digits ds ≡ true → word_of_text ds ≡ word_of_number (pos (digits_value 10 ds))
word_plain [] b d = absurd cc
word_plain (c ∷ cs) b d = rw (not_minus c cs b, d) refl

no_word : (ds : List ℕ) → begins ds ≡ true → is_digits ds ≡ false → word_of_text ds ≡ word.NotNumber
no_word [] b d = absurd cc
no_word (c ∷ cs) b d = rw (not_minus c cs b, d) refl

word_of_small : (n : ℕ) → n < 2 ^ 64 → word_of_number (pos n) ≡ word.Number n
word_of_small n h =
    let fits : nat_lt n (2 ^ 64) ≡ true = (Decides-ltb n (2 ^ 64)).1 h in
    let same : n % 2 ^ 64 ≡ n = mod-eq_of_lt h in
    rw (fits, same) refl

is_digits-decimal : (n : ℕ) → n < 2 ^ 64 → is_digits (decimal n) ≡ true
is_digits-decimal n h =
    let some : nat_lt 0 (length (decimal n)) ≡ true = (Decides-ltb 0 (length (decimal n))).1 (decimal_nonempty n h) in
    rw (some, digits_decimal own n h) refl

word_of_decimal : (n : ℕ) → n < 2 ^ 64 → word_of_text (decimal n) ≡ word.Number n
word_of_decimal n h =
    word_plain (decimal n) (begins-decimal n h) (is_digits-decimal n h)
    ∙ rw (digits_value-decimal own n h) (word_of_small n h)

natural_of_decimal : (n : ℕ) → n < 2 ^ 32 → natural_value (decimal n) ≡ Some n
natural_of_decimal n h =
    let fits : nat_lt n (2 ^ 32) ≡ true = (Decides-ltb n (2 ^ 32)).1 h in
    rw (begins-decimal n (omega arith), word_of_decimal n (omega arith), fits) refl

-- ---- decimals of words

no_leading_zero : (ds : List ℕ) → begins ds ≡ true → get_or ds 0 0 ≡ 48 → length ds ≡ 1
no_leading_zero [] b e = absurd cc
no_leading_zero (c ∷ []) b e = refl
no_leading_zero (c ∷ d ∷ ds) b e = absurd (grind (arith, nat_tests))

decimal_of_word : (ds : List ℕ) (value : ℕ) → begins ds ≡ true → word_of_text ds ≡ word.Number value → ds ≡ decimal value
decimal_of_word ds value b e = by_test (is_digits ds) refl
  where
    digits : (a b : Bool) → (a && b) ≡ true → b ≡ true
    digits true b g = g
    digits false b g = absurd cc

    some : (a b : Bool) → (a && b) ≡ true → a ≡ true
    some true b g = refl
    some false b g = g

    by_range : is_digits ds ≡ true → (t : Bool) → nat_lt (digits_value 10 ds) (2 ^ 64) ≡ t → word_of_number (pos (digits_value 10 ds)) ≡ word.Number value → ds ≡ decimal value
    by_range d true f g =
        let below = (Decides-ltb (digits_value 10 ds) (2 ^ 64)).0 f in
        let same : digits_value 10 ds ≡ value = (let h : word.Number (digits_value 10 ds) ≡ word.Number value = sym (word_of_small (digits_value 10 ds) below) ∙ g in cc) in
        let length_is : 0 < length ds = (Decides-ltb 0 (length ds)).0 (some (nat_lt 0 (length ds)) (list_all is_ascii_digit ds) d) in
        sym (decimal-digits_value own ds (digits (nat_lt 0 (length ds)) (list_all is_ascii_digit ds) d) length_is (no_leading_zero ds b) below) ∙ ap decimal same
    by_range d false f g = let over : word.OutOfRange ≡ word.Number value = rw f at g in absurd cc

    by_test : (t : Bool) → is_digits ds ≡ t → ds ≡ decimal value
    by_test true d = by_range d (nat_lt (digits_value 10 ds) (2 ^ 64)) refl (sym (word_plain ds b d) ∙ e)
    by_test false d = let none : word.NotNumber ≡ word.Number value = sym (no_word ds b d) ∙ e in absurd cc

-- a number, or none, is exactly the one that the word writes
pub natural_exact : (text : List ℕ) → MatchOption (natural_value text) ((n : ℕ) → n < 2 ^ 32 → text ≡ decimal n → ⊥) (λ n. (n < 2 ^ 32) × (text ≡ decimal n))
natural_exact text = by_begins (begins text) refl
  where
    refused : natural_value text ≡ None → (n : ℕ) → n < 2 ^ 32 → text ≡ decimal n → ⊥
    refused e n h f = let no_value : None ≡ Some n = sym e ∙ ap natural_value f ∙ natural_of_decimal n h in absurd cc

    by_value : (value : ℕ) → begins text ≡ true → word_of_text text ≡ word.Number value → (t : Bool) → nat_lt value (2 ^ 32) ≡ t
        → MatchOption (if t then Some value else None) ((n : ℕ) → n < 2 ^ 32 → text ≡ decimal n → ⊥) (λ n. (n < 2 ^ 32) × (text ≡ decimal n))
    by_value value b e true f = ((Decides-ltb value (2 ^ 32)).0 f, decimal_of_word text value b e)
    by_value value b e false f = refused (rw (b, e, f) refl)

    by_word : begins text ≡ true → (w : WordText) → word_of_text text ≡ w
        → MatchOption (small_of w) ((n : ℕ) → n < 2 ^ 32 → text ≡ decimal n → ⊥) (λ n. (n < 2 ^ 32) × (text ≡ decimal n))
    by_word b (word.Number value) e = by_value value b e (nat_lt value (2 ^ 32)) refl
    by_word b word.NotNumber e = refused (rw (b, e) refl)
    by_word b word.OutOfRange e = refused (rw (b, e) refl)

    by_begins : (t : Bool) → begins text ≡ t → MatchOption (if t then small_of (word_of_text text) else None) ((n : ℕ) → n < 2 ^ 32 → text ≡ decimal n → ⊥) (λ n. (n < 2 ^ 32) × (text ≡ decimal n))
    by_begins true b = by_word b (word_of_text text) refl
    by_begins false b = refused (rw b refl)

-- ---- integers

first_of_decimal : (n : ℕ) → n < 2 ^ 64 → (ds : List ℕ) → decimal n ≡ 45 ∷ ds → ⊥
first_of_decimal n h ds e =
    let b : begins (45 ∷ ds) ≡ true = rw e at (begins-decimal n h) in
    let no_minus : nat_eq 45 45 ≡ false = not_minus 45 ds b in
    absurd cc

pub negative_exact : (digits : List ℕ) (number : Option ℕ) → MatchOption number ((n : ℕ) → n < 2 ^ 32 → digits ≡ decimal n → ⊥) (λ n. (n < 2 ^ 32) × (digits ≡ decimal n))
    → MatchOption (negative_of number) ((z : ℤ) → IsSmall z → 45 ∷ digits ≡ signed_decimal z → ⊥) (λ z. IsSmall z × (45 ∷ digits ≡ signed_decimal z))
negative_exact digits number exact = by_number number exact
  where
    positive : (n : ℕ) → n < 2 ^ 32 → 45 ∷ digits ≡ decimal n → ⊥
    positive n h e = first_of_decimal n (omega arith) digits (sym e)

    same_digits : (n : ℕ) → 45 ∷ digits ≡ 45 ∷ decimal (suc n) → digits ≡ decimal (suc n)
    same_digits n e = cc

    refused : ((n : ℕ) → n < 2 ^ 32 → digits ≡ decimal n → ⊥) → (z : ℤ) → IsSmall z → 45 ∷ digits ≡ signed_decimal z → ⊥
    refused x (pos n) h e = positive n h e
    refused x (negsuc n) h e = x (suc n) (omega arith) (same_digits n e)

    zero_refused : digits ≡ decimal 0 → (z : ℤ) → IsSmall z → 45 ∷ digits ≡ signed_decimal z → ⊥
    zero_refused x (pos n) h e = positive n h e
    zero_refused x (negsuc n) h e =
        let same : 0 ≡ suc n = decimal_injective 0 (suc n) (omega arith) (omega arith) (sym x ∙ same_digits n e) in
        absurd (omega arith)

    by_number : (o : Option ℕ) → MatchOption o ((n : ℕ) → n < 2 ^ 32 → digits ≡ decimal n → ⊥) (λ n. (n < 2 ^ 32) × (digits ≡ decimal n))
        → MatchOption (negative_of o) ((z : ℤ) → IsSmall z → 45 ∷ digits ≡ signed_decimal z → ⊥) (λ z. IsSmall z × (45 ∷ digits ≡ signed_decimal z))
    by_number None x = refused x
    by_number (Some zero) x = zero_refused x.1
    by_number (Some (suc n)) x = (omega (arith, x.0), ap (λ (ds : List ℕ). 45 ∷ ds) x.1)
