-- Rows of gates.
use Rattle.std.proofs.Common.{◌≡◌, ℕ, ◌+◌, ◌*◌, ◌<◌, ◌≤◌, Bool, true, false, ◌&&◌, ◌||◌, cond, List, length, get_or, set, refl, sym, ap, ◌∙◌, below_more, arith}
use Rattle.std.proofs.lemmas.List.{length-set}
use Rattle.std.proofs.lemmas.List.Elements.{All-set}
use Rattle.std.specs.Prelude.{All}
use Rattle.circuit.specs.Wires.{IsWire, lit_holds}
use Rattle.std.proofs.lemmas.Nat.{pow_pos}
use Rattle.circuit.specs.Truth.{World}
use Rattle.circuit.specs.declared.lit.Lit.{Lit}
use Rattle.circuit.specs.declared.lit.Gate.{Gate}
use Rattle.bit_words.specs.declared.rows.BitOperation.{BitOperation}
use Rattle.bit_words.specs.declared.rows.BitOperation.TheVariants.{And, Or, Xor, Complement, Mask, Choose}
use Rattle.bit_words.specs.Words.{Grows, bit_of, place_value, low_value}
use Rattle.bit_words.specs.Rows.{IsOperation, operation_bit}
use Rattle.bit_words.proofs.Steps.{still, same, grows_none, grows_then, grows_within}
use Rattle.bit_words.proofs.Digits.{bit_of-set_same, bit_of-set_other, bit_of-later, all_still, lit_at, low_value-more, no_lit_holds}

pub operation_still : {a b : List Gate} {n : ℕ} → Grows a b n → (op : BitOperation) → IsOperation a op → IsOperation b op
operation_still f And h = tt
operation_still f Or h = tt
operation_still f Xor h = tt
operation_still f Complement h = tt
operation_still f (Mask test) h = still f test h
operation_still f (Choose test) h = still f test h

pub operation_same : {a b : List Gate} {n : ℕ} → Grows a b n → (op : BitOperation) → IsOperation a op → (w : World) (x y : Bool) → operation_bit b op w x y ≡ operation_bit a op w x y
operation_same f And h w x y = refl
operation_same f Or h w x y = refl
operation_same f Xor h w x y = refl
operation_same f Complement h w x y = refl
operation_same f (Mask test) h w x y = ap (λ t. x && t) (same f test h w)
operation_same f (Choose test) h w x y = ap (λ t. cond t x y) (same f test h w)

-- the bits of the places below i are made
pub record RowSoFar (old new : List Gate) (op : BitOperation) (a b bits : List Lit) (i : ℕ) : Type 0 where
  pub size : length bits ≡ 64
  pub grows : Grows old new (4 * i)
  pub wires : All (IsWire new) bits
  pub done : (w : World) (k : ℕ) → k < i → bit_of new bits w k ≡ operation_bit old op w (bit_of old a w k) (bit_of old b w k)

pub row_none : (gates : List Gate) (op : BitOperation) (a b bits : List Lit) → length bits ≡ 64 → All (IsWire gates) bits → RowSoFar gates gates op a b bits 0
row_none gates op a b bits s h = record { size = s; grows = grows_none gates 0; wires = h; done = λ w k lt. absurd (omega arith) }

pub row_more : {old mid new : List Gate} {op : BitOperation} {a b bits : List Lit} {i : ℕ} (l d e : Lit) → RowSoFar old mid op a b bits i → Grows mid new 4 → i < 64
    → length a ≡ 64 → length b ≡ 64 → IsOperation old op → All (IsWire old) a → All (IsWire old) b → IsWire new l
    → ((w : World) → lit_holds new l w ≡ operation_bit mid op w (lit_holds mid (get_or a i d) w) (lit_holds mid (get_or b i e) w))
    → RowSoFar old new op a b (set bits i l) (i + 1)
row_more {old} {mid} {new} {op} {a} {b} {bits} {i} l d e r g lt sa sb o ha hb wire is =
    let size = r.size in
    let bit : (w : World) → bit_of new (set bits i l) w i ≡ operation_bit old op w (bit_of old a w i) (bit_of old b w i) = λ w.
    bit_of-set_same new bits w i l (omega arith) ∙ is w
    ∙ ap (λ x. operation_bit mid op w x (lit_holds mid (get_or b i e) w)) (lit_at mid a w i d (omega arith) ∙ bit_of-later r.grows a ha w i)
    ∙ ap (λ x. operation_bit mid op w (bit_of old a w i) x) (lit_at mid b w i e (omega arith) ∙ bit_of-later r.grows b hb w i)
    ∙ operation_same r.grows op o w (bit_of old a w i) (bit_of old b w i) in
    record {
      size = length-set bits i l ∙ size;
      grows = grows_within (4 * (i + 1)) (grows_then r.grows g) (omega arith);
      wires = All-set (IsWire new) bits i l wire (all_still g bits r.wires);
      done = λ w. below_more (λ k. bit_of new (set bits i l) w k ≡ operation_bit old op w (bit_of old a w k) (bit_of old b w k)) i
          (λ k h. bit_of-set_other new bits w i k l (omega arith) (omega arith) ∙ bit_of-later g bits r.wires w k ∙ r.done w k h)
          (bit w);
    }

-- whether a bit holds of those from one place to before i
pub record SomeSoFar (old new : List Gate) (word : List Lit) (some : Lit) (from i : ℕ) : Type 0 where
  pub grows : Grows old new i
  pub wire : IsWire new some
  pub none_holds : (w : World) → lit_holds new some w ≡ false → low_value i old word w ≡ low_value from old word w
  pub one_holds : (w : World) → lit_holds new some w ≡ true → low_value from old word w < low_value i old word w

pub some_none : (gates : List Gate) (word : List Lit) (from : ℕ) → SomeSoFar gates gates word (record { wire = 0; negated = true }) from from
some_none gates word from = record {
  grows = grows_none gates from;
  wire = omega arith;
  none_holds = λ w h. refl;
  one_holds = λ w h. absurd (true_not_false (sym h ∙ no_lit_holds gates w));
}
  where
    true_not_false : true ≡ false → ⊥
    true_not_false h = cc

pub some_more : {old mid new : List Gate} {word : List Lit} {some : Lit} {from i : ℕ} (l d : Lit) → SomeSoFar old mid word some from i → Grows mid new 1 → from ≤ i → i < 64
    → length word ≡ 64 → All (IsWire old) word → IsWire new l
    → ((w : World) → lit_holds new l w ≡ (lit_holds mid some w || lit_holds mid (get_or word i d) w))
    → SomeSoFar old new word l from (i + 1)
some_more {old} {mid} {new} {word} {some} {from} {i} l d r g le lt size h wire is = record {
  grows = grows_then r.grows g;
  wire = wire;
  none_holds = λ w e.
      let bit = lit_at mid word w i d (omega arith) ∙ bit_of-later r.grows word h w i in
      let both = clear_both (lit_holds mid some w) (lit_holds mid (get_or word i d) w) (sym (is w) ∙ e) in
      let before = r.none_holds w both.0 in
      let here = ap (place_value i) (sym bit ∙ both.1) in
      let more = low_value-more i old word w in
      omega arith;
  one_holds = λ w e.
      let bit = lit_at mid word w i d (omega arith) ∙ bit_of-later r.grows word h w i in
      let more = low_value-more i old word w in
      let power = pow_pos i in
      one_of (lit_holds mid some w) (lit_holds mid (get_or word i d) w) (sym (is w) ∙ e)
      (λ a. (let before = r.one_holds w a in omega arith))
      (λ a b. (let before = r.none_holds w a in let here = ap (place_value i) (sym bit ∙ b) in omega arith));
}
  where
    clear_both : (a b : Bool) → (a || b) ≡ false → (a ≡ false) × (b ≡ false)
    clear_both true b e = absurd (cc)
    clear_both false b e = (refl, e)

    one_of : {P : Type 0} (a b : Bool) → (a || b) ≡ true → (a ≡ true → P) → (a ≡ false → b ≡ true → P) → P
    one_of true b e f g = f refl
    one_of false b e f g = g refl e
