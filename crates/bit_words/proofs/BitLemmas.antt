-- Operations bit by bit, and the choice of one of two words.
use Rattle.std.proofs.Common.{◌≡◌, ℕ, ◌+◌, ◌-◌, ◌/◌, ◌%◌, ◌^◌, ◌<◌, Bool, true, false, not, ◌&&◌, ◌||◌, cond, min, max, List, pos, refl, sym, subst, ap, ◌∙◌, bit_and, bit_or, bit_xor, arith}
use Rattle.std.specs.Prelude.{All}
use Rattle.std.specs.Int.{bit_at, bit_not, w64}
use Rattle.std.proofs.lemmas.Nat.{shr_split}
use Rattle.std.proofs.lemmas.Nat.Bits.{bit_at_and, bit_at_or, bit_at_xor, bit_at_not, bit_at_cat_low, same_from_bits_below}
use native.Mathlib.Nat.{mod-lt}
use Rattle.circuit.specs.Truth.{World}
use Rattle.circuit.specs.Wires.{IsWire, lit_holds}
use Rattle.circuit.specs.declared.lit.Lit.{Lit}
use Rattle.circuit.specs.declared.lit.Gate.{Gate}
use Rattle.c_values.specs.declared.kinds.Kind.{Kind}
use Rattle.c_values.specs.Kind.{IsKind, IsValue, wrapped}
use Rattle.c_values.specs.Operations.{complement_of}
use Rattle.c_values.proofs.Fitting.{width_is}
use Rattle.c_values.proofs.Bits.{width_below, IsValue-bit_and, IsValue-bit_or, IsValue-bit_xor, complement_of-machine}
use Rattle.bit_words.specs.Words.{IsWord, bit_of, number_below, word_value}
use Rattle.bit_words.specs.Rows.{xor}
use Rattle.bit_words.proofs.Digits.{bit_at-word_value, bit_at-number_below, word_value-lt, word_value-same}
use Rattle.bit_words.proofs.Values.{wrapped-same, wrapped-value, kind_of_word}

bit_at-mod : (w n i : ℕ) → i < w → bit_at (n % 2 ^ w) i ≡ bit_at n i
bit_at-mod w n i h = sym (ap (λ x. bit_at x i) (sym (shr_split n w)) ∙ bit_at_cat_low (n / 2 ^ w) w (n % 2 ^ w) i h)

-- numbers with the same lowest bits
pub wrapped-bits : (kind : Kind) (x y : ℕ) → IsKind kind → ((k : ℕ) → k < kind.width → bit_at x k ≡ bit_at y k) → wrapped kind (pos x) ≡ wrapped kind (pos y)
wrapped-bits kind x y k h =
    let w = width_is kind k in
    let p : 0 < 2 ^ kind.width = omega (arith, w.halves, w.half) in
    wrapped-same kind x y (same_from_bits_below kind.width (x % 2 ^ kind.width) (y % 2 ^ kind.width) (mod-lt x p) (mod-lt y p)
    (λ i lt. bit_at-mod kind.width x i lt ∙ h i lt ∙ sym (bit_at-mod kind.width y i lt)))

abbrev digit : Bool → ℕ
digit b = cond b 1 0

digit_and : (x y : Bool) → digit (x && y) ≡ min (digit x) (digit y)
digit_and true true = refl
digit_and true false = refl
digit_and false true = refl
digit_and false false = refl

digit_or : (x y : Bool) → digit (x || y) ≡ max (digit x) (digit y)
digit_or true true = refl
digit_or true false = refl
digit_or false true = refl
digit_or false false = refl

digit_xor : (x y : Bool) → digit (xor x y) ≡ (digit x + digit y) % 2
digit_xor true true = refl
digit_xor true false = refl
digit_xor false true = refl
digit_xor false false = refl

digit_not : (x : Bool) → digit (not x) ≡ 1 - digit x
digit_not true = refl
digit_not false = refl

-- a number by its binary digits below the width
pub wrapped-number : (kind : Kind) (gates : List Gate) (word : List Lit) (w : World) (f : ℕ → Bool) → IsKind kind → ((k : ℕ) → k < kind.width → bit_of gates word w k ≡ f k)
    → wrapped kind (pos (word_value gates word w)) ≡ wrapped kind (pos (number_below kind.width f))
wrapped-number kind gates word w f k h =
    let small = width_below kind k in
    wrapped-bits kind (word_value gates word w) (number_below kind.width f) k
    (λ i lt. bit_at-word_value gates word w i (omega arith) ∙ ap digit (h i lt) ∙ sym (bit_at-number_below kind.width f i lt))

module _ (old : List Gate) (kind : Kind) (a b : List Lit) (w : World) (left : IsWord old kind a) (right : IsWord old kind b) where
  from_digits : (n : ℕ) (f : ℕ → Bool) → ((k : ℕ) → k < 64 → digit (f k) ≡ bit_at n k) → wrapped kind (pos (number_below kind.width f)) ≡ wrapped kind (pos n)
  from_digits n f h =
      let small = width_below kind (kind_of_word left) in
      wrapped-bits kind (number_below kind.width f) n (kind_of_word left) (λ k lt. bit_at-number_below kind.width f k lt ∙ h k (omega arith))

  pub and-bits : wrapped kind (pos (number_below kind.width (λ k. bit_of old a w k && bit_of old b w k))) ≡ bit_and (word_value old a w) (word_value old b w)
  and-bits =
      let x = word_value old a w in
      let y = word_value old b w in
      from_digits (bit_and x y) (λ k. bit_of old a w k && bit_of old b w k) (λ k small. digit_and (bit_of old a w k) (bit_of old b w k)
      ∙ ap (λ z. min z (digit (bit_of old b w k))) (sym (bit_at-word_value old a w k small)) ∙ ap (min (bit_at x k)) (sym (bit_at-word_value old b w k small)) ∙ sym (bit_at_and x y k))
      ∙ wrapped-value kind (bit_and x y) (IsValue-bit_and kind x y (left.values w) (right.values w))

  pub or-bits : wrapped kind (pos (number_below kind.width (λ k. bit_of old a w k || bit_of old b w k))) ≡ bit_or (word_value old a w) (word_value old b w)
  or-bits =
      let x = word_value old a w in
      let y = word_value old b w in
      from_digits (bit_or x y) (λ k. bit_of old a w k || bit_of old b w k) (λ k small. digit_or (bit_of old a w k) (bit_of old b w k)
      ∙ ap (λ z. max z (digit (bit_of old b w k))) (sym (bit_at-word_value old a w k small)) ∙ ap (max (bit_at x k)) (sym (bit_at-word_value old b w k small)) ∙ sym (bit_at_or x y k))
      ∙ wrapped-value kind (bit_or x y) (IsValue-bit_or kind x y (left.values w) (right.values w))

  pub xor-bits : wrapped kind (pos (number_below kind.width (λ k. xor (bit_of old a w k) (bit_of old b w k)))) ≡ bit_xor (word_value old a w) (word_value old b w)
  xor-bits =
      let x = word_value old a w in
      let y = word_value old b w in
      from_digits (bit_xor x y) (λ k. xor (bit_of old a w k) (bit_of old b w k)) (λ k small. digit_xor (bit_of old a w k) (bit_of old b w k)
      ∙ ap (λ z. (z + digit (bit_of old b w k)) % 2) (sym (bit_at-word_value old a w k small)) ∙ ap (λ z. (bit_at x k + z) % 2) (sym (bit_at-word_value old b w k small)) ∙ sym (bit_at_xor x y k))
      ∙ wrapped-value kind (bit_xor x y) (IsValue-bit_xor kind x y (left.values w) (right.values w))

pub complement-bits : (old : List Gate) (kind : Kind) (a : List Lit) (w : World) → IsWord old kind a → wrapped kind (pos (number_below kind.width (λ k. not (bit_of old a w k)))) ≡ complement_of kind (word_value old a w)
complement-bits old kind a w operand =
    let x = word_value old a w in
    from_digits old kind a a w operand operand (bit_not w64 x) (λ k. not (bit_of old a w k)) (λ k small. digit_not (bit_of old a w k)
    ∙ ap (λ z. 1 - z) (sym (bit_at-word_value old a w k small)) ∙ sym (bit_at_not w64 x k (word_value-lt old a w) small))
    ∙ complement_of-machine kind x

-- ---- a choice

pub chosen_value : (new old : List Gate) (test : Bool) (r first second : List Lit) (w : World) → ((k : ℕ) → k < 64 → bit_of new r w k ≡ cond test (bit_of old first w k) (bit_of old second w k))
    → word_value new r w ≡ cond test (word_value old first w) (word_value old second w)
chosen_value new old true r first second w h = word_value-same new old r first w h
chosen_value new old false r first second w h = word_value-same new old r second w h

pub chosen_word : (new old : List Gate) (kind : Kind) (test : Lit) (r first second : List Lit) → IsWord old kind first → IsWord old kind second → All (IsWire new) r
    → ((w : World) (k : ℕ) → k < 64 → bit_of new r w k ≡ cond (lit_holds old test w) (bit_of old first w k) (bit_of old second w k)) → IsWord new kind r
chosen_word new old kind test r first second left right wires h = record {
  wires = wires;
  values = λ w. subst (IsValue kind) (sym (chosen_value new old (lit_holds old test w) r first second w (h w))) (one (lit_holds old test w) (word_value old first w) (word_value old second w) (left.values w) (right.values w));
}
  where
    one : (t : Bool) (x y : ℕ) → IsValue kind x → IsValue kind y → IsValue kind (cond t x y)
    one true x y p q = p
    one false x y p q = q
