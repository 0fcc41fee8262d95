-- The words that operations answer: what a kind has of the bits that were computed.
use Rattle.std.proofs.Common.{◌≡◌, ℕ, ◌+◌, ◌-◌, ◌*◌, ◌/◌, ◌%◌, ◌^◌, ◌≤◌, Bool, cond, List, pos, sym, subst, ap, ◌∙◌, arith}
use Rattle.std.specs.Prelude.{All}
use Rattle.std.proofs.Math.Nat.{add-mul-mod_self_right}
use native.Mathlib.Nat.{div-add-mod'}
use Rattle.circuit.specs.Truth.{World}
use Rattle.circuit.specs.Wires.{IsWire}
use Rattle.circuit.specs.declared.lit.Lit.{Lit}
use Rattle.circuit.specs.declared.lit.Gate.{Gate}
use Rattle.c_values.specs.declared.kinds.Kind.{Kind}
use Rattle.c_values.specs.Kind.{IsKind, IsValue, wrapped}
use Rattle.c_values.specs.Operations.{sum_of, difference_of, negative_of}
use Rattle.c_values.proofs.Fitting.{width_is, IsValue-wrapped}
use Rattle.c_values.proofs.Sums.{sum_of-machine, difference_of-machine, negative_of-machine}
use Rattle.c_values.proofs.Bits.{width_below}
use Rattle.bit_words.specs.Words.{IsWord, place_value, low_value, word_value}
use Rattle.bit_words.proofs.Digits.{low_value-mod, word_value-lt, place_value-is}
use Rattle.bit_words.proofs.Values.{wrapped-same, kind_of_word}

pub extended_word : (gates : List Gate) (kind : Kind) (bits result : List Lit) → IsKind kind → All (IsWire gates) result → ((w : World) → word_value gates result w ≡ wrapped kind (pos (word_value gates bits w))) → IsWord gates kind result
extended_word gates kind bits result k wires is = record {
  wires = wires;
  values = λ w. subst (IsValue kind) (sym (is w)) (IsValue-wrapped kind (pos (word_value gates bits w)) k);
}

-- numbers that differ by a multiple
pub same_mod : (x y j k m : ℕ) → x + j * m ≡ y + k * m → x % m ≡ y % m
same_mod x y j k m e = sym (add-mul-mod_self_right x j m) ∙ ap (λ z. z % m) e ∙ add-mul-mod_self_right y k m

-- the machine's 64 bits have the same lowest bits
pub mod_of_64 : (kind : Kind) (x : ℕ) → IsKind kind → x % 2 ^ 64 % 2 ^ kind.width ≡ x % 2 ^ kind.width
mod_of_64 kind x k =
    let w = width_is kind k in
    let split = div-add-mod' x (2 ^ 64) in
    let parts = ap (λ m. x / 2 ^ 64 * m) w.parts in
    same_mod (x % 2 ^ 64) x (x / 2 ^ 64 * w.above) 0 (2 ^ kind.width) (omega arith)

-- what a kind has of bits that agree with 64 bits of the machine
pub from_machine : (kind : Kind) (s x j k : ℕ) → IsKind kind → s + j * 2 ^ kind.width ≡ x + k * 2 ^ kind.width → wrapped kind (pos s) ≡ wrapped kind (pos (x % 2 ^ 64))
from_machine kind s x j k i e = wrapped-same kind s (x % 2 ^ 64) (same_mod s x j k (2 ^ kind.width) e ∙ sym (mod_of_64 kind x i))

-- the number of the lowest bits, and how often 2 ^ width is in the rest
pub record Splits (n v low : ℕ) : Type 0 where
  pub high : ℕ
  pub is : v ≡ low + high * 2 ^ n

pub splits : (n : ℕ) (gates : List Gate) (word : List Lit) (w : World) → n ≤ 64 → Splits n (word_value gates word w) (low_value n gates word w)
splits n gates word w h =
    let v = word_value gates word w in
    let low = low_value-mod n gates word w h in
    let split = div-add-mod' v (2 ^ n) in
    record { high = v / 2 ^ n; is = omega arith }

module _ (new old : List Gate) (kind : Kind) (r a b : List Lit) (carry : Bool) (w : World) (left : IsWord old kind a) (right : IsWord old kind b) where
  pub summed : low_value kind.width new r w + place_value kind.width carry ≡ low_value kind.width old a w + low_value kind.width old b w
      → wrapped kind (pos (word_value new r w)) ≡ sum_of kind (word_value old a w) (word_value old b w)
  summed e =
      let k = kind_of_word left in
      let small = width_below kind k in
      let x = splits kind.width old a w small in
      let y = splits kind.width old b w small in
      let z = splits kind.width new r w small in
      let c = place_value-is kind.width carry in
      let ex = x.is in let ey = y.is in let ez = z.is in
      from_machine kind (word_value new r w) (word_value old a w + word_value old b w) (cond carry 1 0 + x.high + y.high) z.high k (omega arith)
      ∙ sum_of-machine kind (word_value old a w) (word_value old b w) (left.values w) (right.values w)

  pub subtracted : low_value kind.width new r w + place_value kind.width carry + low_value kind.width old b w ≡ low_value kind.width old a w + 2 ^ kind.width
      → wrapped kind (pos (word_value new r w)) ≡ difference_of kind (word_value old a w) (word_value old b w)
  subtracted e =
      let k = kind_of_word left in
      let small = width_below kind k in
      let x = splits kind.width old a w small in
      let y = splits kind.width old b w small in
      let z = splits kind.width new r w small in
      let c = place_value-is kind.width carry in
      let d = (width_is kind k).parts in
      let lt = word_value-lt old b w in
      let ex = x.is in let ey = y.is in let ez = z.is in
      from_machine kind (word_value new r w) (word_value old a w + (2 ^ 64 - word_value old b w)) (cond carry 1 0 + x.high + (width_is kind k).above) (1 + z.high + y.high) k (omega arith)
      ∙ difference_of-machine kind (word_value old a w) (word_value old b w) (left.values w) (right.values w)

pub negated : (new old : List Gate) (kind : Kind) (r a : List Lit) (carry : Bool) (w : World) → IsWord old kind a
    → low_value kind.width new r w + place_value kind.width carry + low_value kind.width old a w ≡ 2 ^ kind.width
    → wrapped kind (pos (word_value new r w)) ≡ negative_of kind (word_value old a w)
negated new old kind r a carry w operand e =
    let k = kind_of_word operand in
    let small = width_below kind k in
    let y = splits kind.width old a w small in
    let z = splits kind.width new r w small in
    let c = place_value-is kind.width carry in
    let d = (width_is kind k).parts in
    let lt = word_value-lt old a w in
    let ey = y.is in let ez = z.is in
    from_machine kind (word_value new r w) (0 + (2 ^ 64 - word_value old a w)) (cond carry 1 0 + (width_is kind k).above) (1 + z.high + y.high) k (omega arith)
    ∙ negative_of-machine kind (word_value old a w) (operand.values w)
