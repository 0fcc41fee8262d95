-- Shifts by one power of two after another.
use Rattle.std.proofs.Common.{◌≡◌, ℕ, ◌+◌, ◌-◌, ◌*◌, ◌/◌, ◌%◌, ◌^◌, ◌<◌, ◌≤◌, Bool, true, false, cond, List, length, get_or, ℤ, pos, negsuc, ◌-ℤ◌, ◌*ℤ◌, Some, None, refl, sym, subst, ap, ◌∙◌, ⊎_elim, arith}
use Rattle.std.specs.Prelude.{All}
use Rattle.std.specs.Int.{int_shr}
use Rattle.std.proofs.lemmas.Int.{ints}
use Rattle.std.proofs.lemmas.Nat.{one_shl, mul-mod_first, pow-add, shr-shr}
use Rattle.std.proofs.Math.Pow.{pow_mono, pow-lt}
use native.Mathlib.Nat.{mod-eq_of_lt, mul-le-mul_left, div-le_self}
use Rattle.circuit.specs.Truth.{World}
use Rattle.circuit.specs.Wires.{IsWire, lit_holds}
use Rattle.circuit.specs.declared.lit.Lit.{Lit}
use Rattle.circuit.specs.declared.lit.Gate.{Gate}
use Rattle.c_values.specs.declared.kinds.Kind.{Kind}
use Rattle.c_values.specs.Kind.{IsKind, IsValue, number_of, reading, residue, pattern_of, wrapped}
use Rattle.c_values.proofs.Fitting.{twos_cases, value_parts, pattern_of-number_of, IsValue-wrapped, wrapped-number_of}
use Rattle.c_values.proofs.Bits.{width_below}
use Rattle.c_values.specs.Operations.{is_shift_amount, left_shift_of, right_shift_of}
use Rattle.c_values.proofs.Sums.{wrapped-from, pattern_of-scaled}
use Rattle.c_values.proofs.Quotients.{number_of-shift, amount_below, left_shift_of-some, left_shift_of-none, right_shift_of-some, right_shift_of-none}
use Rattle.bit_words.proofs.Results.{mod_of_64}
use Rattle.bit_words.specs.Words.{Grows, IsWord, bit_of, place_value, low_value, word_value}
use Rattle.bit_words.proofs.Steps.{grows_none, grows_then, grows_within}
use Rattle.bit_words.proofs.Digits.{bit_of-later, low_value-none, low_value-more, low_value-lt, low_value-mod, word_value-lt, lit_at}
use Rattle.bit_words.proofs.Moved.{low_value-raised, low_value-chosen, word_value-lowered, word_value-lowered_sign, word_value-top}
use Rattle.bit_words.proofs.Values.{wrapped-same, wrapped-value, kind_of_word}

-- the power of two of a stage, as the machine shifts it
pub stage_by : (i n width : ℕ) → i < n → n ≤ 6 → 2 ^ n ≡ width → (1 * 2 ^ i % 2 ^ 64 ≡ 2 ^ i) × (2 ^ i ≤ width) × (width ≤ 64)
stage_by i n width lt few power =
    let least : 2 ^ i < 2 ^ n = pow-lt lt in
    let most : 2 ^ n ≤ 2 ^ 6 = pow_mono few in
    (one_shl i 64 (omega arith), omega arith, omega arith)

pub stage_room : (i width : ℕ) → i ≤ 6 → 4 * width * i ≤ 24 * width
stage_room i width h = let m = mul-le-mul_left (4 * width) h in omega arith

-- ---- up

pub record UpSoFar (old new : List Gate) (a amount : List Lit) (width : ℕ) (bits : List Lit) (i : ℕ) : Type 0 where
  pub size : length bits ≡ 64
  pub grows : Grows old new (4 * width * i)
  pub wires : All (IsWire new) bits
  pub value : (w : World) → low_value width new bits w ≡ low_value width old a w * 2 ^ low_value i old amount w % 2 ^ width

pub up_none : (gates : List Gate) (a amount : List Lit) (width : ℕ) → length a ≡ 64 → All (IsWire gates) a → UpSoFar gates gates a amount width a 0
up_none gates a amount width s h = record {
  size = s;
  grows = grows_none gates (4 * width * 0);
  wires = h;
  value = λ w.
      let x = low_value width gates a w in
      let none : 2 ^ low_value 0 gates amount w ≡ 1 = ap (λ n. 2 ^ n) (low_value-none gates amount w) in
      let one : x * 1 ≡ x = omega arith in
      sym (ap (λ n. x * n % 2 ^ width) none ∙ ap (λ n. n % 2 ^ width) one ∙ mod-eq_of_lt (low_value-lt width gates a w));
}

-- the amount's next bit
up_step : (x a l by i m : ℕ) (t : Bool) → x ≡ a * 2 ^ l % m → by ≡ 2 ^ i → cond t (x * 2 ^ by % m) x ≡ a * 2 ^ (l + place_value i t) % m
up_step x a l by i m true e b =
    ap (λ n. n * 2 ^ by % m) e ∙ mul-mod_first (a * 2 ^ l) (2 ^ by) m
    ∙ ap (λ n. n % m) (let p : a * 2 ^ l * 2 ^ by ≡ a * (2 ^ l * 2 ^ by) = omega arith in p ∙ ap (λ n. a * n) (sym (pow-add 2 l by)) ∙ ap (λ n. a * 2 ^ (l + n)) b)
up_step x a l by i m false e b = let z : l ≡ l + 0 = omega arith in e ∙ ap (λ n. a * 2 ^ n % m) z

pub up_more : {old mid new : List Gate} {a amount : List Lit} {width : ℕ} {bits : List Lit} {i : ℕ} (moved next : List Lit) (by : ℕ) (d : Lit) → UpSoFar old mid a amount width bits i
    → Grows mid new (4 * width) → i < 64 → width ≤ 64 → by ≡ 2 ^ i → by ≤ width → length amount ≡ 64 → All (IsWire old) amount → length next ≡ 64 → All (IsWire new) next
    → ((w : World) (k : ℕ) → k < by → bit_of mid moved w k ≡ false) → ((w : World) (k : ℕ) → by ≤ k → k < 64 → bit_of mid moved w k ≡ bit_of mid bits w (k - by))
    → ((w : World) (k : ℕ) → k < width → bit_of new next w k ≡ cond (lit_holds mid (get_or amount i d) w) (bit_of mid moved w k) (bit_of mid bits w k))
    → UpSoFar old new a amount width next (i + 1)
up_more {old} {mid} {new} {a} {amount} {width} {bits} {i} moved next by d r g lt small is le size h sn wires low high chosen = record {
  size = sn;
  grows = grows_within (4 * width * (i + 1)) (grows_then r.grows g) (omega arith);
  wires = wires;
  value = λ w.
      let bit : lit_holds mid (get_or amount i d) w ≡ bit_of old amount w i = lit_at mid amount w i d (omega arith) ∙ bit_of-later r.grows amount h w i in
      let x = low_value width mid bits w in
      low_value-chosen width new mid (lit_holds mid (get_or amount i d) w) next moved bits w (chosen w)
      ∙ ap (λ n. cond (lit_holds mid (get_or amount i d) w) n x) (low_value-raised width by mid bits moved w le small (low w) (high w))
      ∙ ap (λ t. cond t (x * 2 ^ by % 2 ^ width) x) bit
      ∙ up_step x (low_value width old a w) (low_value i old amount w) by i (2 ^ width) (bit_of old amount w i) (r.value w) is
      ∙ ap (λ n. low_value width old a w * 2 ^ n % 2 ^ width) (sym (low_value-more i old amount w));
}

-- ---- down

pub record DownSoFar (old new : List Gate) (kind : Kind) (a amount word : List Lit) (i : ℕ) : Type 0 where
  pub size : length word ≡ 64
  pub grows : Grows old new (4 * kind.width * i)
  pub wires : All (IsWire new) word
  pub value : (w : World) → word_value new word w ≡ wrapped kind (int_shr (number_of kind (word_value old a w)) (low_value i old amount w))

shr_none : (z : ℤ) → int_shr z 0 ≡ z
shr_none (pos n) = ap pos (let e : n / 1 ≡ n = omega arith in e)
shr_none (negsuc n) = ap negsuc (let e : n / 1 ≡ n = omega arith in e)

shr_again : (z : ℤ) (j k : ℕ) → int_shr (int_shr z j) k ≡ int_shr z (j + k)
shr_again (pos n) j k = ap pos (shr-shr n j k)
shr_again (negsuc n) j k = ap negsuc (shr-shr n j k)

pub down_none : (gates : List Gate) (kind : Kind) (a amount : List Lit) → length a ≡ 64 → IsWord gates kind a → DownSoFar gates gates kind a amount a 0
down_none gates kind a amount s h = record {
  size = s;
  grows = grows_none gates (4 * kind.width * 0);
  wires = h.wires;
  value = λ w. sym (ap (λ n. wrapped kind (int_shr (number_of kind (word_value gates a w)) n)) (low_value-none gates amount w)
      ∙ ap (wrapped kind) (shr_none (number_of kind (word_value gates a w))) ∙ wrapped-number_of kind (word_value gates a w) (h.values w));
}

-- what a kind has of a number of its range is the number's pattern
shr_pattern : (kind : Kind) (v by : ℕ) → IsValue kind v → pattern_of (int_shr (number_of kind v) by) ≡ wrapped kind (int_shr (number_of kind v) by)
shr_pattern kind v by h =
    let z = int_shr (number_of kind v) by in
    let k = (value_parts kind v h).of_kind in
    ap pattern_of (sym (number_of-shift kind v h by)) ∙ pattern_of-number_of kind (wrapped kind z) (value_parts kind (wrapped kind z) (IsValue-wrapped kind z k)).pattern

-- a shift to the right of the pattern, by the sign
shr_sign : (kind : Kind) (v r by low : ℕ) (s b : Bool) → v ≡ low + place_value 63 b → low < 2 ^ 63 → v < 2 ^ 64 → kind.signed ≡ s
    → (cond s b false ≡ false → r ≡ v / 2 ^ by) → (cond s b false ≡ true → r + (2 ^ 64 - 1 - v) / 2 ^ by + 1 ≡ 2 ^ 64) → r ≡ pattern_of (int_shr (number_of kind v) by)
unfolding number_of pattern_of residue
shr_sign kind v r by low false b e small lt es plain turned =
    let less = div-le_self v (2 ^ by) in
    let q : v / 2 ^ by < 2 ^ 64 = omega arith in
    let number : reading kind.signed 64 v ≡ pos v = ap (λ s. reading s 64 v) es in
    plain refl ∙ sym (mod-eq_of_lt q) ∙ ap (λ z. pattern_of (int_shr z by)) (sym number)
shr_sign kind v r by low true false e small lt es plain turned =
    let less = div-le_self v (2 ^ by) in
    let q : v / 2 ^ by < 2 ^ 64 = omega arith in
    let number : reading kind.signed 64 v ≡ pos v = ap (λ s. reading s 64 v) es ∙ ⊎_elim (λ c. c.1) (λ c. absurd (let l = c.0 in omega arith)) (twos_cases 64 v) in
    plain refl ∙ sym (mod-eq_of_lt q) ∙ ap (λ z. pattern_of (int_shr z by)) (sym number)
shr_sign kind v r by low true true e small lt es plain turned =
    let u = 2 ^ 64 - 1 - v in
    let less = div-le_self u (2 ^ by) in
    let q : u / 2 ^ by < 2 ^ 64 = omega arith in
    let is : pos v -ℤ pos (2 ^ 64) ≡ negsuc u = omega (arith, ints) in
    let number : reading kind.signed 64 v ≡ negsuc u = ap (λ s. reading s 64 v) es ∙ ⊎_elim (λ c. absurd (let l = c.0 in omega arith)) (λ c. c.1 ∙ is) (twos_cases 64 v) in
    let whole = turned refl in
    let same = mod-eq_of_lt q in
    let pattern : r ≡ 2 ^ 64 - 1 - u / 2 ^ by % 2 ^ 64 = omega arith in
    pattern ∙ ap (λ z. pattern_of (int_shr z by)) (sym number)

lowered_value : (gates : List Gate) (kind : Kind) (word moved : List Lit) (by : ℕ) (w : World) → IsValue kind (word_value gates word w)
    → ((k : ℕ) → k + by < 64 → bit_of gates moved w k ≡ bit_of gates word w (k + by)) → ((k : ℕ) → 64 ≤ k + by → k < 64 → bit_of gates moved w k ≡ cond kind.signed (bit_of gates word w 63) false)
    → word_value gates moved w ≡ wrapped kind (int_shr (number_of kind (word_value gates word w)) by)
lowered_value gates kind word moved by w h low high =
    let v = word_value gates word w in
    shr_sign kind v (word_value gates moved w) by (low_value 63 gates word w) kind.signed (bit_of gates word w 63) (word_value-top gates word w) (low_value-lt 63 gates word w) (word_value-lt gates word w) refl
    (λ e. word_value-lowered by gates word moved w low (λ k l lt. high k l lt ∙ e))
    (λ e. word_value-lowered_sign by gates word moved w low (λ k l lt. high k l lt ∙ e))
    ∙ shr_pattern kind v by h

-- what a kind has of the lowest bits of one of two values
chosen_wrapped : (kind : Kind) (new old : List Gate) (test : Bool) (bits x y : List Lit) (w : World) → IsKind kind → IsValue kind (word_value old x w) → IsValue kind (word_value old y w)
    → low_value kind.width new bits w ≡ cond test (low_value kind.width old x w) (low_value kind.width old y w)
    → wrapped kind (pos (word_value new bits w)) ≡ cond test (word_value old x w) (word_value old y w)
chosen_wrapped kind new old true bits x y w k hx hy e =
    let small = width_below kind k in
    wrapped-same kind (word_value new bits w) (word_value old x w) (sym (low_value-mod kind.width new bits w small) ∙ e ∙ low_value-mod kind.width old x w small) ∙ wrapped-value kind (word_value old x w) hx
chosen_wrapped kind new old false bits x y w k hx hy e =
    let small = width_below kind k in
    wrapped-same kind (word_value new bits w) (word_value old y w) (sym (low_value-mod kind.width new bits w small) ∙ e ∙ low_value-mod kind.width old y w small) ∙ wrapped-value kind (word_value old y w) hy

down_step : (kind : Kind) (n : ℤ) (l by : ℕ) (t : Bool) → cond t (wrapped kind (int_shr (int_shr n l) by)) (wrapped kind (int_shr n l)) ≡ wrapped kind (int_shr n (l + cond t by 0))
down_step kind n l by true = ap (wrapped kind) (shr_again n l by)
down_step kind n l by false = let z : l ≡ l + 0 = omega arith in ap (λ k. wrapped kind (int_shr n k)) z

pub down_more : {old mid new : List Gate} {kind : Kind} {a amount word : List Lit} {i : ℕ} (moved bits next : List Lit) (by : ℕ) (d : Lit) → DownSoFar old mid kind a amount word i
    → Grows mid new (4 * kind.width) → IsWord old kind a → by ≡ 2 ^ i → length amount ≡ 64 → i < 64 → All (IsWire old) amount → length next ≡ 64
    → All (IsWire new) bits → (All (IsWire new) bits → All (IsWire new) next)
    → ((w : World) (k : ℕ) → k + by < 64 → bit_of mid moved w k ≡ bit_of mid word w (k + by)) → ((w : World) (k : ℕ) → 64 ≤ k + by → k < 64 → bit_of mid moved w k ≡ cond kind.signed (bit_of mid word w 63) false)
    → ((w : World) (k : ℕ) → k < kind.width → bit_of new bits w k ≡ cond (lit_holds mid (get_or amount i d) w) (bit_of mid moved w k) (bit_of mid word w k))
    → ((w : World) → word_value new next w ≡ wrapped kind (pos (word_value new bits w)))
    → DownSoFar old new kind a amount next (i + 1)
down_more {old} {mid} {new} {kind} {a} {amount} {word} {i} moved bits next by d r g left is size lt h sn wires still low high chosen extended = record {
  size = sn;
  grows = grows_within (4 * kind.width * (i + 1)) (grows_then r.grows g) (omega arith);
  wires = still wires;
  value = λ w.
      let k = kind_of_word left in
      let v = word_value mid word w in
      let n = number_of kind (word_value old a w) in
      let l = low_value i old amount w in
      let t = bit_of old amount w i in
      let bit : lit_holds mid (get_or amount i d) w ≡ t = lit_at mid amount w i d (omega arith) ∙ bit_of-later r.grows amount h w i in
      let hv : IsValue kind v = subst (IsValue kind) (sym (r.value w)) (IsValue-wrapped kind (int_shr n l) k) in
      let number : number_of kind v ≡ int_shr n l = ap (number_of kind) (r.value w) ∙ number_of-shift kind (word_value old a w) (left.values w) l in
      let shifted : word_value mid moved w ≡ wrapped kind (int_shr (int_shr n l) by) = lowered_value mid kind word moved by w hv (low w) (high w) ∙ ap (λ z. wrapped kind (int_shr z by)) number in
      let hm : IsValue kind (word_value mid moved w) = subst (IsValue kind) (sym shifted) (IsValue-wrapped kind (int_shr (int_shr n l) by) k) in
      extended w
      ∙ chosen_wrapped kind new mid t bits moved word w k hm hv (low_value-chosen kind.width new mid t bits moved word w (λ j lt. chosen w j lt ∙ ap (λ b. cond b (bit_of mid moved w j) (bit_of mid word w j)) bit))
      ∙ ap (λ x. cond t x v) shifted ∙ ap (λ x. cond t (wrapped kind (int_shr (int_shr n l) by)) x) (r.value w)
      ∙ down_step kind n l by t
      ∙ ap (λ x. wrapped kind (int_shr n x)) (placed l t ∙ sym (low_value-more i old amount w));
}
  where
    placed : (l : ℕ) (t : Bool) → l + cond t by 0 ≡ l + place_value i t
    placed l true = ap (λ n. l + n) is
    placed l false = refl

pub down_all : {old new : List Gate} {kind : Kind} {a amount word : List Lit} {i : ℕ} → IsKind kind → DownSoFar old new kind a amount word i → IsWord new kind word
down_all {old} {kind = kind} {a} {amount} {i = i} k r = record {
  wires = r.wires;
  values = λ w. subst (IsValue kind) (sym (r.value w)) (IsValue-wrapped kind (int_shr (number_of kind (word_value old a w)) (low_value i old amount w)) k);
}

-- ---- the answers

pub left_value : (kind : Kind) (a amount l bits : ℕ) → IsValue kind a → l ≡ amount → bits % 2 ^ kind.width ≡ a % 2 ^ kind.width * 2 ^ l % 2 ^ kind.width
    → wrapped kind (pos bits) ≡ wrapped kind (number_of kind a *ℤ pos (2 ^ amount))
left_value kind a amount l bits h e is =
    let p = value_parts kind a h in
    let m = 2 ^ kind.width in
    wrapped-same kind bits (a * 2 ^ amount % 2 ^ 64)
    (is ∙ ap (λ n. a % m * 2 ^ n % m) e ∙ mul-mod_first a (2 ^ amount) m ∙ sym (mod_of_64 kind (a * 2 ^ amount) p.of_kind))
    ∙ wrapped-from kind (number_of kind a *ℤ pos (2 ^ amount)) (a * 2 ^ amount % 2 ^ 64) p.of_kind (pattern_of-scaled kind a (2 ^ amount) p.pattern)

pub left_answer : (kind amount_kind : Kind) (a amount r : ℕ) (valid : Bool) → valid ≡ is_shift_amount kind amount_kind amount
    → (is_shift_amount kind amount_kind amount ≡ true → r ≡ wrapped kind (number_of kind a *ℤ pos (2 ^ amount))) → cond valid (Some r) None ≡ left_shift_of kind a amount_kind amount
left_answer kind amount_kind a amount r true e h = ap Some (h (sym e)) ∙ left_shift_of-some kind a amount_kind amount (sym e)
left_answer kind amount_kind a amount r false e h = left_shift_of-none kind a amount_kind amount (sym e)

pub right_answer : (kind amount_kind : Kind) (a amount r : ℕ) (valid : Bool) → valid ≡ is_shift_amount kind amount_kind amount
    → (is_shift_amount kind amount_kind amount ≡ true → r ≡ wrapped kind (int_shr (number_of kind a) amount)) → cond valid (Some r) None ≡ right_shift_of kind a amount_kind amount
right_answer kind amount_kind a amount r true e h = ap Some (h (sym e)) ∙ right_shift_of-some kind a amount_kind amount (sym e)
right_answer kind amount_kind a amount r false e h = right_shift_of-none kind a amount_kind amount (sym e)

-- an amount below the width is the number of its lowest bits
pub low_amount : (kind amount_kind : Kind) (gates : List Gate) (amount : List Lit) (w : World) (n : ℕ) → IsKind kind → n ≤ 6 → 2 ^ n ≡ kind.width
    → is_shift_amount kind amount_kind (word_value gates amount w) ≡ true → low_value n gates amount w ≡ word_value gates amount w
low_amount kind amount_kind gates amount w n k few power e =
    let v = word_value gates amount w in
    let lt = amount_below kind amount_kind v k (word_value-lt gates amount w) e in
    low_value-mod n gates amount w (omega arith) ∙ mod-eq_of_lt (omega arith)
