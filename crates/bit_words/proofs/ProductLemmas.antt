-- Products.
use Rattle.std.proofs.Common.{◌≡◌, ℕ, ◌+◌, ◌-◌, ◌*◌, ◌/◌, ◌%◌, ◌^◌, ◌<◌, ◌≤◌, Bool, true, false, ◌&&◌, cond, List, length, get_or, pos, refl, sym, ap, ◌∙◌, arith}
use Rattle.std.specs.Prelude.{All}
use Rattle.std.proofs.lemmas.Nat.{mod-mul-add, mul-mod}
use native.Mathlib.Nat.{div-add-mod', mod-eq_of_lt, mul-le-mul_left}
use Rattle.circuit.specs.Truth.{World}
use Rattle.circuit.specs.Wires.{IsWire, lit_holds}
use Rattle.circuit.specs.declared.lit.Lit.{Lit}
use Rattle.circuit.specs.declared.lit.Gate.{Gate}
use Rattle.c_values.specs.declared.kinds.Kind.{Kind}
use Rattle.c_values.specs.Kind.{wrapped}
use Rattle.c_values.specs.Operations.{product_of}
use Rattle.c_values.proofs.Sums.{product_of-machine}
use Rattle.bit_words.specs.Words.{Grows, IsWord, bit_of, place_value, low_value, word_value}
use Rattle.bit_words.proofs.Steps.{grows_none, grows_then, grows_within}
use Rattle.bit_words.proofs.Digits.{bit_of-later, low_value-none, low_value-more, low_value-lt, low_value-mod, low_value-clear, low_value-later, low_value-same, lit_at, place_value-is}
use Rattle.bit_words.proofs.Moved.{low_value-raised}
use Rattle.bit_words.proofs.Values.{wrapped-same, kind_of_word, width_of_word, no_holds}
use Rattle.bit_words.proofs.Results.{mod_of_64}

pub product_room : (i width : ℕ) → i < width → 13 * width * i + 13 * width ≤ 13 * (width * width)
product_room i width h = let m = mul-le-mul_left (13 * width) h in omega arith

pub record ProductSoFar (old new : List Gate) (a b : List Lit) (width : ℕ) (bits : List Lit) (i : ℕ) : Type 0 where
  pub size : length bits ≡ 64
  pub grows : Grows old new (13 * width * i)
  pub wires : All (IsWire new) bits
  pub value : (w : World) → low_value width new bits w ≡ low_value width old a w * low_value i old b w % 2 ^ width

pub product_none : (gates : List Gate) (a b : List Lit) (width : ℕ) (bits : List Lit) → length bits ≡ 64 → All (IsWire gates) bits → ((w : World) (k : ℕ) → bit_of gates bits w k ≡ false)
    → ProductSoFar gates gates a b width bits 0
product_none gates a b width bits s h blank = record {
  size = s;
  grows = grows_none gates (13 * width * 0);
  wires = h;
  value = λ w.
      let x = low_value width gates a w in
      let zero = low_value-none gates b w in
      let product : x * low_value 0 gates b w ≡ 0 = ap (λ n. x * n) zero ∙ (let z : x * 0 ≡ 0 = omega arith in z) in
      low_value-clear width gates bits w (λ k lt. blank w k) ∙ sym (ap (λ n. n % 2 ^ width) product ∙ mod-eq_of_lt (let p = low_value-lt width gates a w in omega arith));
}

-- the part of one more bit of the second factor
product_step : (a l p n c m x y : ℕ) (t : Bool) → n < m → n + c * m ≡ x + y → x ≡ a * l % m → y ≡ cond t (a * p % m) 0 → n ≡ a * (l + cond t p 0) % m
product_step a l p n c m x y true lt e ex ey =
    let first = div-add-mod' (a * l) m in
    let second = div-add-mod' (a * p) m in
    let q = a * l / m in
    let r = a * p / m in
    let whole : a * (l + p) ≡ (q + r + c) * m + n = omega arith in
    sym (ap (λ z. z % m) whole ∙ mod-mul-add (q + r + c) m n lt)
product_step a l p n c m x y false lt e ex ey =
    let first = div-add-mod' (a * l) m in
    let q = a * l / m in
    let whole : a * (l + 0) ≡ (q + c) * m + n = omega arith in
    sym (ap (λ z. z % m) whole ∙ mod-mul-add (q + c) m n lt)

pub product_more : {old mid new last : List Gate} {a b : List Lit} {width : ℕ} {bits : List Lit} {i : ℕ} (moved part next : List Lit) (carry d : Lit) → ProductSoFar old mid a b width bits i
    → Grows mid new (4 * width) → Grows new last (9 * width) → i < width → width ≤ 64 → length b ≡ 64 → All (IsWire old) a → All (IsWire old) b → length next ≡ 64 → All (IsWire new) part → All (IsWire last) next
    → ((w : World) (k : ℕ) → k < i → bit_of mid moved w k ≡ false) → ((w : World) (k : ℕ) → i ≤ k → k < 64 → bit_of mid moved w k ≡ bit_of mid a w (k - i))
    → ((w : World) (k : ℕ) → k < width → bit_of new part w k ≡ (bit_of mid moved w k && lit_holds mid (get_or b i d) w))
    → ((w : World) → low_value width last next w + place_value width (lit_holds last carry w) ≡ low_value width new bits w + low_value width new part w + place_value 0 (lit_holds new (record { wire = 0; negated = true }) w))
    → ProductSoFar old last a b width next (i + 1)
product_more {old} {mid} {new} {last} {a} {b} {width} {bits} {i} moved part next carry d r g f lt small sb ha hb sn hp hn low high masked summed = record {
  size = sn;
  grows = grows_within (13 * width * (i + 1)) (grows_then r.grows (grows_then g f)) (omega arith);
  wires = hn;
  value = λ w.
      let t = bit_of old b w i in
      let bit : lit_holds mid (get_or b i d) w ≡ t = lit_at mid b w i d (omega arith) ∙ bit_of-later r.grows b hb w i in
      let x = low_value width old a w in
      let up : low_value width mid moved w ≡ x * 2 ^ i % 2 ^ width =
      low_value-raised width i mid a moved w (omega arith) small (low w) (high w) ∙ ap (λ n. n * 2 ^ i % 2 ^ width) (low_value-later r.grows width a ha w) in
      let one : low_value width new part w ≡ cond t (x * 2 ^ i % 2 ^ width) 0 = part_value t w (λ k lt. masked w k lt ∙ ap (λ z. bit_of mid moved w k && z) bit) ∙ ap (λ n. cond t n 0) up in
      let kept = low_value-later g width bits r.wires w in
      let none = ap (place_value 0) (no_holds new w) in
      let sum = summed w in
      let c = lit_holds last carry w in
      let place = place_value-is width c in
      product_step x (low_value i old b w) (2 ^ i) (low_value width last next w) (cond c 1 0) (2 ^ width) (low_value width mid bits w) (low_value width new part w) t
      (low_value-lt width last next w) (omega arith) (r.value w) one
      ∙ ap (λ n. x * n % 2 ^ width) (sym (low_value-more i old b w));
}
  where
    part_value : (t : Bool) (w : World) → ((k : ℕ) → k < width → bit_of new part w k ≡ (bit_of mid moved w k && t)) → low_value width new part w ≡ cond t (low_value width mid moved w) 0
    part_value true w h = low_value-same width new mid part moved w (λ k lt. h k lt ∙ and_true (bit_of mid moved w k))
      where
        and_true : (b : Bool) → (b && true) ≡ b
        and_true true = refl
        and_true false = refl
    part_value false w h = low_value-clear width new part w (λ k lt. h k lt ∙ and_false (bit_of mid moved w k))
      where
        and_false : (b : Bool) → (b && false) ≡ false
        and_false true = refl
        and_false false = refl

pub multiplied : (new old : List Gate) (kind : Kind) (r a b : List Lit) (w : World) → IsWord old kind a → IsWord old kind b
    → low_value kind.width new r w ≡ low_value kind.width old a w * low_value kind.width old b w % 2 ^ kind.width
    → wrapped kind (pos (word_value new r w)) ≡ product_of kind (word_value old a w) (word_value old b w)
multiplied new old kind r a b w left right e =
    let k = kind_of_word left in
    let small = width_of_word left in
    let x = word_value old a w in
    let y = word_value old b w in
    let m = 2 ^ kind.width in
    wrapped-same kind (word_value new r w) (x * y % 2 ^ 64)
    (sym (low_value-mod kind.width new r w small) ∙ e ∙ ap (λ n. n * low_value kind.width old b w % m) (low_value-mod kind.width old a w small) ∙ ap (λ n. x % m * n % m) (low_value-mod kind.width old b w small)
    ∙ sym (mul-mod x y m) ∙ sym (mod_of_64 kind (x * y) k))
    ∙ product_of-machine kind x y (left.values w) (right.values w)
