-- Sums, place by place.
use Rattle.std.proofs.Common.{◌≡◌, ℕ, suc, ◌+◌, ◌*◌, ◌^◌, ◌<◌, Bool, true, false, ◌&&◌, ◌||◌, List, length, get_or, set, ap, ◌∙◌, arith}
use Rattle.std.specs.Prelude.{All}
use Rattle.std.proofs.Math.Nat.{pow-suc}
use Rattle.std.proofs.lemmas.List.{length-set}
use Rattle.std.proofs.lemmas.List.Elements.{All-set}
use Rattle.circuit.specs.Truth.{World}
use Rattle.circuit.specs.Wires.{IsWire, lit_holds}
use Rattle.circuit.specs.declared.lit.Lit.{Lit}
use Rattle.circuit.specs.declared.lit.Gate.{Gate}
use Rattle.bit_words.specs.Words.{Grows, bit_of, place_value, low_value}
use Rattle.bit_words.specs.Rows.{xor}
use Rattle.bit_words.proofs.Steps.{grows_none, grows_then, grows_within}
use Rattle.bit_words.proofs.Digits.{bit_of-set_same, bit_of-later, low_value-none, low_value-more, low_value-set, low_value-later, all_still, lit_at}

-- the places below i are summed
pub record SumSoFar (old new : List Gate) (a b : List Lit) (carry : Lit) (bits : List Lit) (carried : Lit) (i : ℕ) : Type 0 where
  pub size : length bits ≡ 64
  pub grows : Grows old new (9 * i)
  pub wires : All (IsWire new) bits
  pub carried_wire : IsWire new carried
  pub value : (w : World) → low_value i new bits w + place_value i (lit_holds new carried w) ≡ low_value i old a w + low_value i old b w + place_value 0 (lit_holds old carry w)

pub sum_none : (gates : List Gate) (a b : List Lit) (carry : Lit) (bits : List Lit) → length bits ≡ 64 → All (IsWire gates) bits → IsWire gates carry
    → ((w : World) (k : ℕ) → bit_of gates bits w k ≡ false) → SumSoFar gates gates a b carry bits carry 0
sum_none gates a b carry bits s h wire blank = record {
  size = s;
  grows = grows_none gates 0;
  wires = h;
  carried_wire = wire;
  value = λ w. omega (arith, low_value-none gates bits w, low_value-none gates a w, low_value-none gates b w);
}

-- three bits of one place
place_sum : (i : ℕ) (x y c : Bool) → place_value i (xor (xor x y) c) + place_value (i + 1) ((x && y) || (xor x y && c)) ≡ place_value i x + place_value i y + place_value i c
place_sum i x y c = cases x y c
  where
    twice : 2 ^ (i + 1) ≡ 2 ^ i + 2 ^ i
    twice = let e : i + 1 ≡ suc i = omega arith in ap (λ n. 2 ^ n) e ∙ (let p = pow-suc 2 i in omega arith)

    cases : (x y c : Bool) → place_value i (xor (xor x y) c) + place_value (i + 1) ((x && y) || (xor x y && c)) ≡ place_value i x + place_value i y + place_value i c
    cases true true true = omega (arith, twice)
    cases true true false = omega (arith, twice)
    cases true false true = omega (arith, twice)
    cases true false false = omega (arith, twice)
    cases false true true = omega (arith, twice)
    cases false true false = omega (arith, twice)
    cases false false true = omega (arith, twice)
    cases false false false = omega (arith, twice)

pub sum_more : {old mid new : List Gate} {a b : List Lit} {carry : Lit} {bits : List Lit} {carried : Lit} {i : ℕ} (l n d e : Lit) → SumSoFar old mid a b carry bits carried i → Grows mid new 9 → i < 64
    → length a ≡ 64 → length b ≡ 64 → All (IsWire old) a → All (IsWire old) b → IsWire new l → IsWire new n
    → ((w : World) → lit_holds new l w ≡ xor (xor (lit_holds mid (get_or a i d) w) (lit_holds mid (get_or b i e) w)) (lit_holds mid carried w))
    → ((w : World) → lit_holds new n w ≡ ((lit_holds mid (get_or a i d) w && lit_holds mid (get_or b i e) w) || (xor (lit_holds mid (get_or a i d) w) (lit_holds mid (get_or b i e) w) && lit_holds mid carried w)))
    → SumSoFar old new a b carry (set bits i l) n (i + 1)
sum_more {old} {mid} {new} {a} {b} {carry} {bits} {carried} {i} l n d e r g lt sa sb ha hb wire next is is_next =
    let size = r.size in
    record {
      size = length-set bits i l ∙ size;
      grows = grows_within (9 * (i + 1)) (grows_then r.grows g) (omega arith);
      wires = All-set (IsWire new) bits i l wire (all_still g bits r.wires);
      carried_wire = next;
      value = λ w.
          let x = bit_of old a w i in
          let y = bit_of old b w i in
          let c = lit_holds mid carried w in
          let at_a : lit_holds mid (get_or a i d) w ≡ x = lit_at mid a w i d (omega arith) ∙ bit_of-later r.grows a ha w i in
          let at_b : lit_holds mid (get_or b i e) w ≡ y = lit_at mid b w i e (omega arith) ∙ bit_of-later r.grows b hb w i in
          let bit : bit_of new (set bits i l) w i ≡ xor (xor x y) c =
          bit_of-set_same new bits w i l (omega arith) ∙ is w ∙ ap (λ z. xor (xor z (lit_holds mid (get_or b i e) w)) c) at_a ∙ ap (λ z. xor (xor x z) c) at_b in
          let out : lit_holds new n w ≡ ((x && y) || (xor x y && c)) =
          is_next w ∙ ap (λ z. (z && lit_holds mid (get_or b i e) w) || (xor z (lit_holds mid (get_or b i e) w) && c)) at_a ∙ ap (λ z. (x && z) || (xor x z && c)) at_b in
          let top = low_value-more i new (set bits i l) w ∙ ap (λ z. low_value i new (set bits i l) w + place_value i z) bit in
          let low = low_value-set i new bits w l (omega arith) ∙ low_value-later g i bits r.wires w in
          let carry_out = ap (place_value (i + 1)) out in
          let more_a = low_value-more i old a w in
          let more_b = low_value-more i old b w in
          let before = r.value w in
          let place = place_sum i x y c in
          omega arith;
    }
