-- Words that are one pattern, bit by bit.
use Rattle.std.proofs.Common.{◌≡◌, ℕ, ◌+◌, ◌*◌, ◌^◌, ◌<◌, Bool, true, false, not, ◌&&◌, cond, List, length, get_or, set, refl, sym, ap, ◌∙◌, below_more, ⊎_elim, arith}
use Rattle.std.specs.Prelude.{All, ◌==◌}
use Rattle.std.specs.Int.{bit_at}
use Rattle.std.proofs.lemmas.Bool.{eqb-true, eq-eqb, cases_eq}
use Rattle.std.proofs.lemmas.List.Elements.{All-set}
use Rattle.std.proofs.lemmas.Nat.Bits.{bit_at-zero, bit_at_above}
use Rattle.circuit.specs.Truth.{World}
use Rattle.circuit.specs.Wires.{IsWire, lit_holds}
use Rattle.circuit.specs.declared.lit.Lit.{Lit}
use Rattle.circuit.specs.declared.lit.Gate.{Gate}
use Rattle.c_values.specs.Operations.{truth_of}
use Rattle.bit_words.specs.Words.{Grows, bit_of, word_value}
use Rattle.bit_words.proofs.Steps.{grows_none, grows_then, grows_within}
use Rattle.bit_words.proofs.Digits.{bit_of-set_same, bit_of-set_other, bit_of-later, lit_at, bit_at-word_value, word_value-is}
use Rattle.bit_words.proofs.Values.{yes_holds}

abbrev digit : Bool → ℕ
digit b = cond b 1 0

-- ---- a word of one bit

truth_lt : (b : Bool) → truth_of b < 2 ^ 64
truth_lt true = omega arith
truth_lt false = omega arith

truth_lowest : (b : Bool) → digit b ≡ bit_at (truth_of b) 0
truth_lowest true = refl
truth_lowest false = refl

truth_above : (b : Bool) (k : ℕ) → 0 < k → bit_at 0 k ≡ bit_at (truth_of b) k
truth_above true k h = bit_at-zero k ∙ sym (bit_at_above 1 1 k (omega arith) (omega arith))
truth_above false k h = refl

pub one_bit : (gates : List Gate) (w : World) (bits : List Lit) (l : Lit) → length bits ≡ 64 → word_value gates bits w ≡ 0 → word_value gates (set bits 0 l) w ≡ truth_of (lit_holds gates l w)
one_bit gates w bits l size zero =
    let b = lit_holds gates l w in
    word_value-is gates (set bits 0 l) w (truth_of b) (truth_lt b) (λ k lt. ⊎_elim
    (λ e. rw e (ap digit (bit_of-set_same gates bits w 0 l (omega arith)) ∙ truth_lowest b))
    (λ n. ap digit (bit_of-set_other gates bits w 0 k l (omega arith) n) ∙ sym (bit_at-word_value gates bits w k lt) ∙ ap (λ v. bit_at v k) zero ∙ truth_above b k (omega arith))
    (cases_eq k 0))

pub one_bit_wires : (gates : List Gate) (bits : List Lit) (l : Lit) → All (IsWire gates) bits → IsWire gates l → All (IsWire gates) (set bits 0 l)
one_bit_wires gates bits l h wire = All-set (IsWire gates) bits 0 l wire h

-- ---- the bits below a place are those of a pattern

pub record AlikeSoFar (old new : List Gate) (word : List Lit) (pattern : ℕ) (alike : Lit) (i : ℕ) : Type 0 where
  pub grows : Grows old new (2 * i)
  pub wire : IsWire new alike
  pub same : (w : World) → lit_holds new alike w ≡ true → (k : ℕ) → k < i → cond (bit_of old word w k) 1 0 ≡ bit_at pattern k
  pub told : (w : World) → ((k : ℕ) → k < i → cond (bit_of old word w k) 1 0 ≡ bit_at pattern k) → lit_holds new alike w ≡ true

pub alike_none : (gates : List Gate) (word : List Lit) (pattern : ℕ) → AlikeSoFar gates gates word pattern (record { wire = 0; negated = false }) 0
alike_none gates word pattern = record {
  grows = grows_none gates 0;
  wire = omega arith;
  same = λ w h k lt. absurd (omega arith);
  told = λ w h. yes_holds gates w;
}

both_parts : (a e b : Bool) → (a && cond e b (not b)) ≡ true → (a ≡ true) × (b ≡ e)
both_parts true true b h = (refl, h)
both_parts true false true h = absurd (cc)
both_parts true false false h = (refl, refl)
both_parts false e b h = absurd (cc)

both_make : (a e b : Bool) → a ≡ true → b ≡ e → (a && cond e b (not b)) ≡ true
both_make true true b h s = s
both_make true false b h s = rw s refl
both_make false e b h s = absurd (cc)

digit_same : (a b : Bool) → digit a ≡ digit b → a ≡ b
digit_same true true h = refl
digit_same true false h = absurd (omega arith)
digit_same false true h = absurd (omega arith)
digit_same false false h = refl

pub alike_more : {old mid new : List Gate} {word : List Lit} {pattern : ℕ} {alike : Lit} {i : ℕ} (l d : Lit) (e : Bool) → AlikeSoFar old mid word pattern alike i → Grows mid new 2 → i < 64
    → length word ≡ 64 → All (IsWire old) word → IsWire new l → cond e 1 0 ≡ bit_at pattern i
    → ((w : World) → lit_holds new l w ≡ (lit_holds mid alike w && cond e (lit_holds mid (get_or word i d) w) (not (lit_holds mid (get_or word i d) w))))
    → AlikeSoFar old new word pattern l (i + 1)
alike_more {old} {mid} {new} {word} {pattern} {alike} {i} l d e r g lt size h wire bit is =
    let here : (w : World) → lit_holds mid (get_or word i d) w ≡ bit_of old word w i = λ w. lit_at mid word w i d (omega arith) ∙ bit_of-later r.grows word h w i in
    record {
      grows = grows_within (2 * (i + 1)) (grows_then r.grows g) (omega arith);
      wire = wire;
      same = λ w held.
          let parts = both_parts (lit_holds mid alike w) e (lit_holds mid (get_or word i d) w) (sym (is w) ∙ held) in
          below_more (λ k. cond (bit_of old word w k) 1 0 ≡ bit_at pattern k) i (r.same w parts.0) (ap digit (sym (here w) ∙ parts.1) ∙ bit);
      told = λ w all.
          is w ∙ both_make (lit_holds mid alike w) e (lit_holds mid (get_or word i d) w) (r.told w (λ k lt'. all k (omega arith)))
          (here w ∙ digit_same (bit_of old word w i) e (all i (omega arith) ∙ sym bit));
    }

same_tests : (a b : Bool) → (a ≡ true → b ≡ true) → (b ≡ true → a ≡ true) → a ≡ b
same_tests true b f g = sym (f refl)
same_tests false true f g = g refl
same_tests false false f g = refl

pub alike_all : {old new : List Gate} {word : List Lit} {pattern : ℕ} {alike : Lit} {i : ℕ} → AlikeSoFar old new word pattern alike i → i ≡ 64 → pattern < 2 ^ 64 → (w : World) → lit_holds new alike w ≡ (word_value old word w == pattern)
alike_all {old} {new} {word} {pattern} {alike} {i} r all small w =
    same_tests (lit_holds new alike w) (word_value old word w == pattern)
    (λ held. eq-eqb (word_value old word w) pattern (word_value-is old word w pattern small (λ k lt. r.same w held k (omega arith))))
    (λ same. let e = eqb-true (word_value old word w) pattern same in
    r.told w (λ k lt. sym (bit_at-word_value old word w k (omega arith)) ∙ ap (λ v. bit_at v k) e))
