-- The values of words: constants, and what a kind has of a word.
use Rattle.std.proofs.Common.{◌≡◌, ℕ, ◌+◌, ◌-◌, ◌%◌, ◌^◌, ◌<◌, ◌≤◌, Bool, true, false, not, cond, List, [], length, set, take, pos, refl, sym, subst, ap, ◌∙◌, below_more, ⊎_elim, arith}
use Rattle.std.specs.Prelude.{All}
use Rattle.std.specs.Int.{bit_at}
use Rattle.std.proofs.lemmas.Bool.{cases_lt}
use Rattle.std.proofs.lemmas.List.{length-set, take-set-le}
use Rattle.std.proofs.lemmas.List.Elements.{All-set}
use Rattle.circuit.specs.Truth.{World}
use Rattle.circuit.specs.Wires.{IsWire, lit_holds}
use Rattle.circuit.specs.declared.lit.Lit.{Lit}
use Rattle.circuit.specs.declared.lit.Gate.{Gate}
use Rattle.circuit.proofs.Gates.{constant_wire}
use Rattle.c_values.specs.declared.kinds.Kind.{Kind}
use Rattle.c_values.specs.Kind.{IsKind, IsValue, number_of, residue, pattern_of, fit, reading, wrapped, converted}
use Rattle.c_values.proofs.Fitting.{by_width, value_parts, IsValue-wrapped, wrapped-number_of, pattern_of-number_of, converted-is}
use Rattle.c_values.proofs.Sums.{wrapped-from}
use Rattle.c_values.proofs.Bits.{bit_at-wrapped, bit_at-wrapped_high, width_below, width_some}
use Rattle.bit_words.specs.Words.{Grows, IsWord, bit_of, word_value}
use Rattle.bit_words.proofs.Digits.{bit_of-set_same, bit_of-set_other, bit_at-word_value, word_value-is, word_value-lt, word_value-same, bit_of-later, all_still}

abbrev digit : Bool → ℕ
digit b = cond b 1 0

-- ---- constants

pub record ConstantSoFar (value : ℕ) (bits : List Lit) (i : ℕ) : Type 0 where
  pub size : length bits ≡ 64
  pub wires : (gates : List Gate) → All (IsWire gates) bits
  pub done : (gates : List Gate) (w : World) (k : ℕ) → k < i → cond (bit_of gates bits w k) 1 0 ≡ bit_at value k

pub constant_none : (value : ℕ) (bits : List Lit) → length bits ≡ 64 → ((gates : List Gate) → All (IsWire gates) bits) → ConstantSoFar value bits 0
constant_none value bits s h = record { size = s; wires = h; done = λ gates w k lt. absurd (omega arith) }

pub constant_more : {value : ℕ} {bits : List Lit} {i : ℕ} (l : Lit) → ConstantSoFar value bits i → i < 64 → l.wire ≡ 0 → ((gates : List Gate) (w : World) → cond (lit_holds gates l w) 1 0 ≡ bit_at value i) → ConstantSoFar value (set bits i l) (i + 1)
constant_more {value} {bits} {i} l r lt zero is =
    let size = r.size in
    record {
      size = length-set bits i l ∙ size;
      wires = λ gates. All-set (IsWire gates) bits i l (omega arith) (r.wires gates);
      done = λ gates w. below_more (λ k. cond (bit_of gates (set bits i l) w k) 1 0 ≡ bit_at value k) i
          (λ k h. ap digit (bit_of-set_other gates bits w i k l (omega arith) (omega arith)) ∙ r.done gates w k h)
          (ap digit (bit_of-set_same gates bits w i l (omega arith)) ∙ is gates w);
    }

pub yes_holds : (gates : List Gate) (w : World) → lit_holds gates (record { wire = 0; negated = false }) w ≡ true
yes_holds gates w = constant_wire gates w

pub no_holds : (gates : List Gate) (w : World) → lit_holds gates (record { wire = 0; negated = true }) w ≡ false
no_holds gates w = ap not (constant_wire gates w)

pub constant_all : {value : ℕ} {bits : List Lit} {i : ℕ} → ConstantSoFar value bits i → 64 ≤ i → value < 2 ^ 64 → (gates : List Gate) (w : World) → word_value gates bits w ≡ value
constant_all {value} {bits} r all h gates w = word_value-is gates bits w value h (λ k lt. r.done gates w k (omega arith))

-- ---- what a kind has of a word

-- what a kind has of a number depends on the lowest bits alone
pub wrapped-same : (kind : Kind) (x y : ℕ) → x % 2 ^ kind.width ≡ y % 2 ^ kind.width → wrapped kind (pos x) ≡ wrapped kind (pos y)
unfolding wrapped fit residue
wrapped-same kind x y e = ap (λ r. pattern_of (reading kind.signed kind.width r)) e

-- a value is what its kind has of it
pub wrapped-value : (kind : Kind) (v : ℕ) → IsValue kind v → wrapped kind (pos v) ≡ v
wrapped-value kind v h =
    let p = value_parts kind v h in
    wrapped-from kind (number_of kind v) v p.of_kind (pattern_of-number_of kind v p.pattern) ∙ wrapped-number_of kind v h

pub record ExtendedSoFar (word : List Lit) (width : ℕ) (top : Lit) (bits : List Lit) (i : ℕ) : Type 0 where
  pub size : length bits ≡ 64
  pub own : take width bits ≡ take width word
  pub wires : (gates : List Gate) → All (IsWire gates) word → IsWire gates top → All (IsWire gates) bits
  pub low : (gates : List Gate) (w : World) (k : ℕ) → k < width → bit_of gates bits w k ≡ bit_of gates word w k
  pub high : (gates : List Gate) (w : World) (k : ℕ) → k < i → width ≤ k → bit_of gates bits w k ≡ lit_holds gates top w

pub extended_none : (word : List Lit) (width : ℕ) (top : Lit) → length word ≡ 64 → ExtendedSoFar word width top word width
extended_none word width top s = record {
  size = s;
  own = refl;
  wires = λ gates h t. h;
  low = λ gates w k lt. refl;
  high = λ gates w k lt le. absurd (omega arith);
}

pub extended_more : {word : List Lit} {width : ℕ} {top : Lit} {bits : List Lit} {i : ℕ} → ExtendedSoFar word width top bits i → width ≤ i → i < 64 → width ≤ 64 → ExtendedSoFar word width top (set bits i top) (i + 1)
extended_more {word} {width} {top} {bits} {i} r le lt small =
    let size = r.size in
    record {
      size = length-set bits i top ∙ size;
      own = take-set-le width bits i top le ∙ r.own;
      wires = λ gates h t. All-set (IsWire gates) bits i top t (r.wires gates h t);
      low = λ gates w k h. bit_of-set_other gates bits w i k top (omega arith) (omega arith) ∙ r.low gates w k h;
      high = λ gates w. below_more (λ k. width ≤ k → bit_of gates (set bits i top) w k ≡ lit_holds gates top w) i
          (λ k h m. bit_of-set_other gates bits w i k top (omega arith) (omega arith) ∙ r.high gates w k h m)
          (λ m. bit_of-set_same gates bits w i top (omega arith));
    }

pub extended_all : (kind : Kind) {word : List Lit} {top : Lit} {bits : List Lit} {i : ℕ} → ExtendedSoFar word kind.width top bits i → 64 ≤ i → IsKind kind → (gates : List Gate) (w : World)
    → lit_holds gates top w ≡ cond kind.signed (bit_of gates word w (kind.width - 1)) false
    → word_value gates bits w ≡ wrapped kind (pos (word_value gates word w))
extended_all kind {word} {top} {bits} r all k gates w is =
    let small = width_below kind k in
    let some = width_some kind k in
    let above : digit (lit_holds gates top w) ≡ cond kind.signed (bit_at (word_value gates word w) (kind.width - 1)) 0 =
    let e : digit (lit_holds gates top w) ≡ digit (cond kind.signed (bit_of gates word w (kind.width - 1)) false) = ap digit is in
    e ∙ either kind.signed ∙ ap (λ n. cond kind.signed n 0) (sym (bit_at-word_value gates word w (kind.width - 1) (omega arith))) in
    let v = value_parts kind (wrapped kind (pos (word_value gates word w))) (IsValue-wrapped kind (pos (word_value gates word w)) k) in
    word_value-is gates bits w (wrapped kind (pos (word_value gates word w))) v.pattern (λ j lt. ⊎_elim
    (λ low. ap digit (r.low gates w j low) ∙ sym (bit_at-word_value gates word w j lt) ∙ sym (bit_at-wrapped kind (word_value gates word w) j k low))
    (λ high. ap digit (r.high gates w j (omega arith) high) ∙ above ∙ sym (bit_at-wrapped_high kind (word_value gates word w) j k high lt))
    (cases_lt j kind.width))
  where
    either : (s : Bool) → digit (cond s (bit_of gates word w (kind.width - 1)) false) ≡ cond s (digit (bit_of gates word w (kind.width - 1))) 0
    either true = refl
    either false = refl

-- ---- conversions

pub record Converted (from to : Kind) (old new : List Lit) : Type 0 where
  pub word : (gates : List Gate) → IsWord gates from old → IsWord gates to new
  pub value : (gates : List Gate) → IsWord gates from old → (w : World) → word_value gates new w ≡ converted from to (word_value gates old w)

pub converted_word : (from to : Kind) (word result : List Lit) → IsKind to → ((gates : List Gate) → All (IsWire gates) word → All (IsWire gates) result)
    → ((gates : List Gate) (w : World) → word_value gates result w ≡ wrapped to (pos (word_value gates word w))) → Converted from to word result
converted_word from to word result k wires is = record {
  word = λ gates h. record {
    wires = wires gates h.wires;
    values = λ w. subst (IsValue to) (sym (is gates w)) (IsValue-wrapped to (pos (word_value gates word w)) k);
  };
  value = λ gates h w. is gates w ∙ converted-is from to (word_value gates word w) k (word_value-lt gates word w);
}

-- a kind that has a word is one of the kinds
pub kind_of_word : {gates : List Gate} {kind : Kind} {word : List Lit} → IsWord gates kind word → IsKind kind
kind_of_word h = (value_parts _ _ (h.values [])).of_kind

pub width_of_word : {gates : List Gate} {kind : Kind} {word : List Lit} → IsWord gates kind word → kind.width ≤ 64
width_of_word {kind = kind} h = width_below kind (kind_of_word h)

pub least_width : {gates : List Gate} {kind : Kind} {word : List Lit} → IsWord gates kind word → 8 ≤ kind.width
least_width {kind = kind} h = by_width (λ w. 8 ≤ w) (omega arith) (omega arith) (omega arith) (omega arith) kind.width (kind_of_word h)

pub word_value-later : {a b : List Gate} {n : ℕ} → Grows a b n → (word : List Lit) → All (IsWire a) word → (w : World) → word_value b word w ≡ word_value a word w
word_value-later {a} {b} f word h w = word_value-same b a word word w (λ k lt. bit_of-later f word h w k)

-- a word of an older circuit is one still
pub word_later : {a b : List Gate} {n : ℕ} → Grows a b n → (kind : Kind) (word : List Lit) → IsWord a kind word → IsWord b kind word
word_later f kind word h = record {
  wires = all_still f word h.wires;
  values = λ w. subst (IsValue kind) (sym (word_value-later f word h.wires w)) (h.values w);
}
