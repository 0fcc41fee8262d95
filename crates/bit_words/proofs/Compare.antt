-- Comparisons.
use Rattle.std.proofs.Common.{◌≡◌, ℕ, ◌+◌, ◌-◌, ◌%◌, ◌^◌, ◌<◌, ◌≤◌, Bool, true, false, not, cond, List, pos, ◌+ℤ◌, ◌-ℤ◌, refl, sym, ap, ◌∙◌, ⊎_elim, arith}
use Rattle.std.specs.Prelude.{◌==◌, ◌⊎◌, ◌≢◌}
use Rattle.std.specs.Int.{bit_at}
use Rattle.std.proofs.lemmas.Int.{ints}
use Rattle.std.proofs.lemmas.Bool.{eq-eqb, ne_eqb}
use Rattle.std.proofs.lemmas.Bool.Decides.{eqb_tells}
use borrow.Author.Differences.{true_is_lt, false_is_lt}
use Rattle.circuit.specs.Truth.{World}
use Rattle.circuit.specs.declared.lit.Lit.{Lit}
use Rattle.circuit.specs.declared.lit.Gate.{Gate}
use Rattle.c_values.specs.declared.kinds.Kind.{Kind}
use Rattle.c_values.specs.Kind.{IsValue, number_of, reading, twos_complement, fit}
use Rattle.c_values.specs.Operations.{is_less, is_equal}
use Rattle.c_values.proofs.Fitting.{width_is, twos_cases, value_parts, fit_same, pattern_of-number_of}
use Rattle.c_values.proofs.Machine.{machine_equal}
use Rattle.c_values.proofs.Bits.{low-pattern_of, width_below}
use Rattle.bit_words.specs.Biases.{bias_of}
use Rattle.bit_words.specs.Rows.{xor}
use Rattle.bit_words.specs.Words.{IsWord, bit_of, place_value, low_value, word_value}
use Rattle.bit_words.proofs.Digits.{bit_at-word_value, low_value-zero, low_value-clear, word_value-lt}
use Rattle.bit_words.proofs.Values.{wrapped-value, kind_of_word}
use Rattle.bit_words.proofs.BitLemmas.{wrapped-bits}

abbrev digit : Bool → ℕ
digit b = cond b 1 0

-- a value's number is what its lowest bits stand for in two's complement, or without a sign
pub number_of-low : (kind : Kind) (v : ℕ) → IsValue kind v → number_of kind v ≡ reading kind.signed kind.width (v % 2 ^ kind.width)
unfolding fit
number_of-low kind v h =
    let p = value_parts kind v h in
    sym (fit_same kind (number_of kind v) p.of_kind p.range)
    ∙ ap (reading kind.signed kind.width) (sym (low-pattern_of kind (number_of kind v) p.of_kind) ∙ ap (λ x. x % 2 ^ kind.width) (pattern_of-number_of kind v p.pattern))

pub less_is : (kind : Kind) (a b x y r : ℕ) (c : Bool) → pos x ≡ number_of kind a +ℤ pos (bias_of kind) → pos y ≡ number_of kind b +ℤ pos (bias_of kind)
    → r < 2 ^ kind.width → x < 2 ^ kind.width → y < 2 ^ kind.width → r + place_value kind.width c + y ≡ x + 2 ^ kind.width → not c ≡ is_less kind a b
unfolding is_less
less_is kind a b x y r true ex ey small sx sy e = false_is_lt (number_of kind a) (number_of kind b) (omega (arith, ints))
less_is kind a b x y r false ex ey small sx sy e = true_is_lt (number_of kind a) (number_of kind b) (omega (arith, ints))

-- the exclusive disjunctions of all bits
pub equal_is : (new old : List Gate) (kind : Kind) (d a b : List Lit) (some : Bool) (w : World) → IsWord old kind a → IsWord old kind b
    → ((k : ℕ) → k < kind.width → bit_of new d w k ≡ xor (bit_of old a w k) (bit_of old b w k))
    → (some ≡ false → low_value kind.width new d w ≡ 0) → (some ≡ true → 0 < low_value kind.width new d w)
    → not some ≡ is_equal kind (word_value old a w) (word_value old b w)
equal_is new old kind d a b some w left right bits none one =
    let x = word_value old a w in
    let y = word_value old b w in
    let k = kind_of_word left in
    let small = width_below kind k in
    let agree : low_value kind.width new d w ≡ 0 → x ≡ y = λ z.
    sym (wrapped-value kind x (left.values w)) ∙ wrapped-bits kind x y k (λ i lt.
    bit_at-word_value old a w i (omega arith) ∙ ap digit (alike (bit_of old a w i) (bit_of old b w i) (sym (bits i lt) ∙ low_value-zero kind.width new d w z i lt)) ∙ sym (bit_at-word_value old b w i (omega arith)))
    ∙ wrapped-value kind y (right.values w) in
    let apart : x ≡ y → low_value kind.width new d w ≡ 0 = λ e.
    low_value-clear kind.width new d w (λ i lt. bits i lt ∙ same_bits (bit_of old a w i) (bit_of old b w i)
    (sym (bit_at-word_value old a w i (omega arith)) ∙ ap (λ n. bit_at n i) e ∙ bit_at-word_value old b w i (omega arith))) in
    let test : not some ≡ (x == y) = by_test some none one agree apart (eqb_tells x y) in
    test ∙ machine_equal kind x y (word_value-lt old a w) (word_value-lt old b w)
  where
    alike : (p q : Bool) → xor p q ≡ false → p ≡ q
    alike true true e = refl
    alike true false e = absurd (cc)
    alike false true e = absurd (cc)
    alike false false e = refl

    same_bits : (p q : Bool) → digit p ≡ digit q → xor p q ≡ false
    same_bits true true e = refl
    same_bits true false e = absurd (omega arith)
    same_bits false true e = absurd (omega arith)
    same_bits false false e = refl

    by_test : {n x y : ℕ} (s : Bool) → (s ≡ false → n ≡ 0) → (s ≡ true → 0 < n) → (n ≡ 0 → x ≡ y) → (x ≡ y → n ≡ 0)
        → ((x == y) ≡ true) × (x ≡ y) ⊎ ((x == y) ≡ false) × (x ≢ y) → not s ≡ (x == y)
    by_test true none one agree apart t = ⊎_elim (λ p. absurd (let some = one refl in let clear = apart p.1 in omega arith)) (λ p. sym p.0) t
    by_test false none one agree apart t = ⊎_elim (λ p. sym p.0) (λ p. absurd (p.1 (agree (none refl)))) t

-- ---- biases

pub biased_unsigned : (kind : Kind) (v x : ℕ) → IsValue kind v → kind.signed ≡ false → x ≡ v % 2 ^ kind.width → pos x ≡ number_of kind v +ℤ pos (bias_of kind)
biased_unsigned kind v x h e is =
    let number = number_of-low kind v h ∙ ap (λ s. reading s kind.width (v % 2 ^ kind.width)) e in
    let bias : bias_of kind ≡ 0 = ap (λ s. cond s (2 ^ (kind.width - 1)) 0) e in
    omega (arith, ints)

pub biased_signed : (kind : Kind) (v low x : ℕ) (top : Bool) → IsValue kind v → kind.signed ≡ true → low < 2 ^ (kind.width - 1)
    → v % 2 ^ kind.width ≡ low + place_value (kind.width - 1) top → x ≡ low + place_value (kind.width - 1) (not top) → pos x ≡ number_of kind v +ℤ pos (bias_of kind)
biased_signed kind v low x top h e small is turned =
    let number = number_of-low kind v h ∙ ap (λ s. reading s kind.width (v % 2 ^ kind.width)) e in
    let bias : bias_of kind ≡ 2 ^ (kind.width - 1) = ap (λ s. cond s (2 ^ (kind.width - 1)) 0) e in
    let halves = (width_is kind (value_parts kind v h).of_kind).halves in
    by_top top is turned (twos_cases kind.width (v % 2 ^ kind.width)) number bias halves
  where
    by_top : (t : Bool) → v % 2 ^ kind.width ≡ low + place_value (kind.width - 1) t → x ≡ low + place_value (kind.width - 1) (not t)
        → ((v % 2 ^ kind.width < 2 ^ (kind.width - 1)) × (twos_complement kind.width (v % 2 ^ kind.width) ≡ pos (v % 2 ^ kind.width))) ⊎ ((2 ^ (kind.width - 1) ≤ v % 2 ^ kind.width) × (twos_complement kind.width (v % 2 ^ kind.width) ≡ pos (v % 2 ^ kind.width) -ℤ pos (2 ^ kind.width)))
        → number_of kind v ≡ twos_complement kind.width (v % 2 ^ kind.width) → bias_of kind ≡ 2 ^ (kind.width - 1) → 2 ^ kind.width ≡ 2 ^ (kind.width - 1) + 2 ^ (kind.width - 1)
        → pos x ≡ number_of kind v +ℤ pos (bias_of kind)
    by_top true is turned cases number bias halves = ⊎_elim (λ c. absurd (let l = c.0 in omega arith)) (λ c. (let value = c.1 in omega (arith, ints))) cases
    by_top false is turned cases number bias halves = ⊎_elim (λ c. (let value = c.1 in omega (arith, ints))) (λ c. absurd (let l = c.0 in omega arith)) cases

pub is_unsigned : (b : Bool) → not b ≡ true → b ≡ false
is_unsigned true e = cc
is_unsigned false e = refl

pub is_signed : (b : Bool) → not b ≡ false → b ≡ true
is_signed true e = refl
is_signed false e = cc

-- a number is not 0 where the test tells so
pub nonzero_is : (t : Bool) (v : ℕ) → (t ≡ false → v ≡ 0) → (t ≡ true → 0 < v) → t ≡ not (v == 0)
nonzero_is false v none some = sym (ap not (eq-eqb v 0 (none refl)))
nonzero_is true v none some = let more = some refl in sym (ap not (ne_eqb v 0 (λ e. omega arith)))
