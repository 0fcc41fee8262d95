-- Signs and magnitudes.
use Rattle.std.proofs.Common.{◌≡◌, ℕ, ◌+◌, ◌-◌, ◌%◌, ◌^◌, ◌<◌, Bool, true, false, cond, ℤ, pos, negsuc, neg_ℤ, ◌-ℤ◌, sym, ap, ◌∙◌, ⊎_elim, arith}
use Rattle.std.specs.Prelude.{unsigned_abs}
use Rattle.std.proofs.lemmas.Int.{ints}
use native.Mathlib.Nat.{mod-eq_of_lt}
use Rattle.c_values.specs.declared.kinds.Kind.{Kind}
use Rattle.c_values.specs.Kind.{IsValue, number_of, reading, residue, pattern_of, fit, wrapped}
use Rattle.c_values.proofs.Fitting.{width_is, twos_cases, value_parts}
use Rattle.c_values.proofs.Residues.{residue_is}
use Rattle.bit_words.specs.Signs.{signed_number}
use Rattle.bit_words.specs.Words.{place_value}
use Rattle.bit_words.proofs.Compare.{number_of-low}

pub magnitude_unsigned : (kind : Kind) (v x : ℕ) → IsValue kind v → kind.signed ≡ false → x ≡ v % 2 ^ kind.width → x ≡ unsigned_abs (number_of kind v)
magnitude_unsigned kind v x h e is = is ∙ ap unsigned_abs (sym (number_of-low kind v h ∙ ap (λ s. reading s kind.width (v % 2 ^ kind.width)) e))

-- a number with a sign, by its highest bit
pub signed_cases : (kind : Kind) (v low : ℕ) (top : Bool) → IsValue kind v → kind.signed ≡ true → low < 2 ^ (kind.width - 1) → v % 2 ^ kind.width ≡ low + place_value (kind.width - 1) top
    → number_of kind v ≡ cond top (pos (v % 2 ^ kind.width) -ℤ pos (2 ^ kind.width)) (pos (v % 2 ^ kind.width))
signed_cases kind v low true h e small is =
    number_of-low kind v h ∙ ap (λ s. reading s kind.width (v % 2 ^ kind.width)) e ∙ ⊎_elim (λ c. absurd (let l = c.0 in omega arith)) (λ c. c.1) (twos_cases kind.width (v % 2 ^ kind.width))
signed_cases kind v low false h e small is =
    number_of-low kind v h ∙ ap (λ s. reading s kind.width (v % 2 ^ kind.width)) e ∙ ⊎_elim (λ c. c.1) (λ c. absurd (let l = c.0 in omega arith)) (twos_cases kind.width (v % 2 ^ kind.width))

-- what is below 0 by n has this magnitude
abs_below : (x m n : ℕ) → x + n ≡ m → unsigned_abs (pos x -ℤ pos m) ≡ n
abs_below x m n e = ap unsigned_abs (let z : pos x -ℤ pos m ≡ neg_ℤ (pos n) = omega (arith, ints) in z) ∙ negated n
  where
    negated : (n : ℕ) → unsigned_abs (neg_ℤ (pos n)) ≡ n
    negated n = omega (arith, ints)

pub magnitude_signed : (kind : Kind) (v low r : ℕ) (top : Bool) (c : Bool) (o : ℕ) → IsValue kind v → kind.signed ≡ true → low < 2 ^ (kind.width - 1) → v % 2 ^ kind.width ≡ low + place_value (kind.width - 1) top
    → o < 2 ^ kind.width → o + place_value kind.width c + v % 2 ^ kind.width ≡ 2 ^ kind.width → r ≡ cond top o (v % 2 ^ kind.width) → r ≡ unsigned_abs (number_of kind v)
magnitude_signed kind v low r true c o h e small is lt opposite chosen =
    let some : 0 < 2 ^ (kind.width - 1) = (let w = width_is kind (value_parts kind v h).of_kind in omega (arith, w.half)) in
    let sum : v % 2 ^ kind.width + o ≡ 2 ^ kind.width = no_carry c opposite in
    chosen ∙ sym (ap unsigned_abs (signed_cases kind v low true h e small is) ∙ abs_below (v % 2 ^ kind.width) (2 ^ kind.width) o sum)
  where
    no_carry : (c : Bool) → o + place_value kind.width c + v % 2 ^ kind.width ≡ 2 ^ kind.width → v % 2 ^ kind.width + o ≡ 2 ^ kind.width
    no_carry true e = absurd (let w = width_is kind (value_parts kind v h).of_kind in let half = w.half in omega arith)
    no_carry false e = omega arith
magnitude_signed kind v low r false c o h e small is lt opposite chosen =
    chosen ∙ ap unsigned_abs (sym (signed_cases kind v low false h e small is))

-- ---- the sign put back

pub sign_unsigned : (n m : ℕ) (negative : Bool) → negative ≡ false → n < m → n ≡ residue (signed_number negative n) m
unfolding residue
sign_unsigned n m negative e lt = sym (ap (λ t. residue (signed_number t n) m) e ∙ mod-eq_of_lt lt)

pub sign_chosen : (n m o r : ℕ) (c negative : Bool) → 0 < m → n < m → o < m → o + cond c m 0 + n ≡ m → r ≡ cond negative o n → r ≡ residue (signed_number negative n) m
unfolding residue
sign_chosen n m o r c false p lt small e is = is ∙ sym (mod-eq_of_lt lt)
sign_chosen n m o r true true p lt small e is =
    let z : n ≡ 0 = omega arith in
    let zero : o ≡ 0 = omega arith in
    is ∙ zero ∙ sym (ap (λ k. residue (neg_ℤ (pos k)) m) z ∙ mod-eq_of_lt p)
sign_chosen n m o r false true p lt small e is =
    is ∙ sym (residue_is (neg_ℤ (pos n)) m 1 o p (omega (arith, ints)) ∙ mod-eq_of_lt small)

-- what a kind has of bits that equal a number modulo 2 ^ width
pub wrapped-residue : (kind : Kind) (x : ℕ) (z : ℤ) → x % 2 ^ kind.width ≡ residue z (2 ^ kind.width) → wrapped kind (pos x) ≡ wrapped kind z
unfolding wrapped fit residue
wrapped-residue kind x z e = ap (λ r. pattern_of (reading kind.signed kind.width r)) e

-- ---- quotients by magnitudes

abbrev pub is_negative : ℤ → Bool
is_negative (pos n) = false
is_negative (negsuc n) = true
