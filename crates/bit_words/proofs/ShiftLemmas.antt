-- Shifts by powers of two, and amounts.
use Rattle.std.proofs.Common.{◌≡◌, ℕ, ◌+◌, ◌-◌, ◌%◌, ◌^◌, ◌<◌, ◌≤◌, Bool, true, false, not, cond, List, length, get_or, set, pos, refl, sym, ap, ◌∙◌, below_more, ⊎_elim, arith}
use Rattle.std.specs.Prelude.{All, nat_lt}
use Rattle.std.proofs.lemmas.Bool.{cases_lt}
use Rattle.std.proofs.lemmas.Bool.Decides.{nat_tests}
use Rattle.std.proofs.lemmas.List.{length-set}
use Rattle.std.proofs.lemmas.List.Elements.{All-set}
use Rattle.std.proofs.Math.Pow.{pow_mono}
use native.Mathlib.Nat.{mod-lt, mod-le, mod-eq_of_lt}
use Rattle.circuit.specs.Truth.{World}
use Rattle.circuit.specs.Wires.{IsWire, lit_holds}
use Rattle.circuit.specs.declared.lit.Lit.{Lit}
use Rattle.circuit.specs.declared.lit.Gate.{Gate}
use Rattle.c_values.specs.declared.kinds.Kind.{Kind}
use Rattle.c_values.specs.Kind.{IsKind, IsValue, number_of, reading, residue, pattern_of}
use Rattle.c_values.specs.Operations.{is_shift_amount}
use Rattle.c_values.proofs.Fitting.{by_width, twos_cases, value_parts, pattern_of-number_of}
use Rattle.c_values.proofs.Quotients.{shift_amount-machine}
use Rattle.bit_words.specs.Words.{bit_of}
use Rattle.bit_words.proofs.Digits.{bit_of-set_same, bit_of-set_other, lit_at}
use Rattle.bit_words.proofs.Compare.{number_of-low}

-- ---- a word of which the bits are moved

pub record RaisedSoFar (word : List Lit) (by : ℕ) (bits : List Lit) (i : ℕ) : Type 0 where
  pub size : length bits ≡ 64
  pub wires : (gates : List Gate) → All (IsWire gates) word → All (IsWire gates) bits
  pub low : (gates : List Gate) (w : World) (k : ℕ) → k < by → bit_of gates bits w k ≡ false
  pub high : (gates : List Gate) (w : World) (k : ℕ) → by ≤ k → k < i → bit_of gates bits w k ≡ bit_of gates word w (k - by)

pub raised_none : (word : List Lit) (by : ℕ) (bits : List Lit) → length bits ≡ 64 → ((gates : List Gate) → All (IsWire gates) bits)
    → ((gates : List Gate) (w : World) (k : ℕ) → bit_of gates bits w k ≡ false) → RaisedSoFar word by bits by
raised_none word by bits s h blank = record {
  size = s;
  wires = λ gates a. h gates;
  low = λ gates w k lt. blank gates w k;
  high = λ gates w k le lt. absurd (omega arith);
}

pub raised_more : {word : List Lit} {by : ℕ} {bits : List Lit} {i : ℕ} (d : Lit) → RaisedSoFar word by bits i → by ≤ i → i < 64 → length word ≡ 64
    → RaisedSoFar word by (set bits i (get_or word (i - by) d)) (i + 1)
raised_more {word} {by} {bits} {i} d r le lt s =
    let size = r.size in
    let l = get_or word (i - by) d in
    record {
      size = length-set bits i l ∙ size;
      wires = λ gates h. All-set (IsWire gates) bits i l (h (i - by) d (omega arith)) (r.wires gates h);
      low = λ gates w k h. bit_of-set_other gates bits w i k l (omega arith) (omega arith) ∙ r.low gates w k h;
      high = λ gates w k m h. below_more (λ j. by ≤ j → bit_of gates (set bits i l) w j ≡ bit_of gates word w (j - by)) i
          (λ j g n. bit_of-set_other gates bits w i j l (omega arith) (omega arith) ∙ r.high gates w j n g)
          (λ n. bit_of-set_same gates bits w i l (omega arith) ∙ lit_at gates word w (i - by) d (omega arith)) k h m;
    }

pub record LoweredSoFar (word : List Lit) (by : ℕ) (signed : Bool) (bits : List Lit) (i : ℕ) : Type 0 where
  pub size : length bits ≡ 64
  pub wires : (gates : List Gate) → All (IsWire gates) word → All (IsWire gates) bits
  pub low : (gates : List Gate) (w : World) (k : ℕ) → k < i → k + by < 64 → bit_of gates bits w k ≡ bit_of gates word w (k + by)
  pub high : (gates : List Gate) (w : World) (k : ℕ) → k < i → 64 ≤ k + by → bit_of gates bits w k ≡ cond signed (bit_of gates word w 63) false

pub lowered_none : (word : List Lit) (by : ℕ) (signed : Bool) (bits : List Lit) → length bits ≡ 64 → ((gates : List Gate) → All (IsWire gates) bits) → LoweredSoFar word by signed bits 0
lowered_none word by signed bits s h = record {
  size = s;
  wires = λ gates a. h gates;
  low = λ gates w k lt. absurd (omega arith);
  high = λ gates w k lt. absurd (omega arith);
}

pub lowered_more : {word : List Lit} {by : ℕ} {signed : Bool} {bits : List Lit} {i : ℕ} (l : Lit) → LoweredSoFar word by signed bits i → i < 64
    → ((gates : List Gate) → All (IsWire gates) word → IsWire gates l)
    → (i + by < 64 → (gates : List Gate) (w : World) → lit_holds gates l w ≡ bit_of gates word w (i + by))
    → (64 ≤ i + by → (gates : List Gate) (w : World) → lit_holds gates l w ≡ cond signed (bit_of gates word w 63) false)
    → LoweredSoFar word by signed (set bits i l) (i + 1)
lowered_more {word} {by} {signed} {bits} {i} l r lt wire low high =
    let size = r.size in
    record {
      size = length-set bits i l ∙ size;
      wires = λ gates h. All-set (IsWire gates) bits i l (wire gates h) (r.wires gates h);
      low = λ gates w k h m. below_more (λ j. j + by < 64 → bit_of gates (set bits i l) w j ≡ bit_of gates word w (j + by)) i
          (λ j g n. bit_of-set_other gates bits w i j l (omega arith) (omega arith) ∙ r.low gates w j g n)
          (λ n. bit_of-set_same gates bits w i l (omega arith) ∙ low n gates w) k h m;
      high = λ gates w k h m. below_more (λ j. 64 ≤ j + by → bit_of gates (set bits i l) w j ≡ cond signed (bit_of gates word w 63) false) i
          (λ j g n. bit_of-set_other gates bits w i j l (omega arith) (omega arith) ∙ r.high gates w j g n)
          (λ n. bit_of-set_same gates bits w i l (omega arith) ∙ high n gates w) k h m;
    }

-- ---- amounts

-- a value whose lowest bits are a small number is that number
small_value : (kind : Kind) (v : ℕ) → IsValue kind v → v % 2 ^ kind.width < 2 ^ 7 → v ≡ v % 2 ^ kind.width
unfolding pattern_of residue
small_value kind v h small =
    let p = value_parts kind v h in
    let half : 2 ^ 7 ≤ 2 ^ (kind.width - 1) = by_width (λ w. 2 ^ 7 ≤ 2 ^ (w - 1)) (omega arith) (omega arith) (omega arith) (omega arith) kind.width p.of_kind in
    let number : number_of kind v ≡ pos (v % 2 ^ kind.width) = number_of-low kind v h ∙ natural kind.signed half in
    let big : v % 2 ^ kind.width < 2 ^ 64 = omega arith in
    sym (pattern_of-number_of kind v p.pattern) ∙ ap pattern_of number ∙ mod-eq_of_lt big
  where
    natural : (s : Bool) → 2 ^ 7 ≤ 2 ^ (kind.width - 1) → reading s kind.width (v % 2 ^ kind.width) ≡ pos (v % 2 ^ kind.width)
    natural false half = refl
    natural true half = ⊎_elim (λ c. c.1) (λ c. absurd (let l = c.0 in omega arith)) (twos_cases kind.width (v % 2 ^ kind.width))

pub amount_is : (kind amount_kind : Kind) (v n : ℕ) (some : Bool) → IsKind kind → IsValue amount_kind v → n ≤ 6 → 2 ^ n ≡ kind.width
    → (some ≡ false → v % 2 ^ amount_kind.width ≡ v % 2 ^ n) → (some ≡ true → v % 2 ^ n < v % 2 ^ amount_kind.width) → not some ≡ is_shift_amount kind amount_kind v
amount_is kind amount_kind v n some k h few power none one =
    let p = value_parts amount_kind v h in
    below some none one ∙ shift_amount-machine kind amount_kind v k p.pattern
  where
    wide : 2 ^ n ≤ 64
    wide = pow_mono few

    positive : 0 < 2 ^ n
    positive = let m = by_width (λ w. 8 ≤ w) (omega arith) (omega arith) (omega arith) (omega arith) kind.width k in omega arith

    below : (s : Bool) → (s ≡ false → v % 2 ^ amount_kind.width ≡ v % 2 ^ n) → (s ≡ true → v % 2 ^ n < v % 2 ^ amount_kind.width) → not s ≡ nat_lt v kind.width
    below false none one =
        let e = none refl in
        let small = mod-lt v positive in
        let same = small_value amount_kind v h (omega (arith, wide)) in
        let lt : v < kind.width = omega arith in
        grind (arith, nat_tests)
    below true none one =
        let more = one refl in
        let at_most = mod-le v (2 ^ amount_kind.width) in
        let ge : kind.width ≤ v = ⊎_elim (λ lt. absurd (let same = mod-eq_of_lt lt in omega arith)) (λ le. (let g : 2 ^ n ≤ v = le in omega arith)) (cases_lt v (2 ^ n)) in
        grind (arith, nat_tests)
