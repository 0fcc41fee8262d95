-- Restoring division, bit by bit.
use Rattle.std.proofs.Common.{◌≡◌, ℕ, zero, suc, ◌+◌, ◌-◌, ◌*◌, ◌^◌, ◌<◌, ◌≤◌, ◌≢◌, Bool, true, false, ◌||◌, cond, List, length, get_or, set, sym, ap, ◌∙◌, ⊎_elim, arith}
use Rattle.std.specs.Prelude.{All}
use Rattle.std.proofs.lemmas.Bool.{cases_lt}
use Rattle.std.proofs.lemmas.List.{length-set}
use Rattle.std.proofs.lemmas.List.Elements.{All-set}
use Rattle.std.proofs.Math.Nat.{pow-suc}
use native.Mathlib.Nat.{mul-le-mul_left}
use Rattle.circuit.specs.Truth.{World}
use Rattle.circuit.specs.Wires.{IsWire, lit_holds}
use Rattle.circuit.specs.declared.lit.Lit.{Lit}
use Rattle.circuit.specs.declared.lit.Gate.{Gate}
use Rattle.bit_words.specs.Words.{Grows, bit_of, place_value, number_below, low_value}
use Rattle.bit_words.proofs.Steps.{grows_none, grows_then, grows_within}
use Rattle.bit_words.proofs.Digits.{all_still, bit_of-later, bit_of-set_same, bit_of-set_other, low_value-none, low_value-more, low_value-clear, low_value-later, lit_at, number_below-same}

-- ---- a bit appended below

doubled_from : (m : ℕ) (f g : ℕ → Bool) → ((k : ℕ) → k < m → g (k + 1) ≡ f k) → number_below (suc m) g ≡ place_value 0 (g 0) + 2 * number_below m f
unfolding number_below
doubled_from zero f g h = omega arith
doubled_from (suc m) f g h =
    let before = doubled_from m f g (λ k lt. h k (omega arith)) in
    let e : suc m ≡ m + 1 = omega arith in
    let bit : g (suc m) ≡ f m = ap g e ∙ h m (omega arith) in
    let power = pow-suc 2 m in
    let top : place_value (suc m) (g (suc m)) ≡ 2 * place_value m (f m) = ap (place_value (suc m)) bit ∙ twice (f m) power in
    let low : number_below (suc m) g ≡ place_value 0 (g 0) + 2 * number_below m f = before in
    ap (λ x. x + place_value (suc m) (g (suc m))) low ∙ ap (λ x. place_value 0 (g 0) + 2 * number_below m f + x) top
    ∙ (let r : place_value 0 (g 0) + 2 * number_below m f + 2 * place_value m (f m) ≡ place_value 0 (g 0) + 2 * (number_below m f + place_value m (f m)) = omega arith in r)
  where
    twice : (b : Bool) → 2 ^ suc m ≡ 2 ^ m * 2 → place_value (suc m) b ≡ 2 * place_value m b
    twice true e = omega arith
    twice false e = omega arith

-- the bits of twice a number, with the one that goes over the width
pub low_value-appended : (n : ℕ) (gates : List Gate) (x y : List Lit) (w : World) → 0 < n → n ≤ 64 → ((k : ℕ) → k + 1 < 64 → bit_of gates y w (k + 1) ≡ bit_of gates x w k)
    → low_value n gates y w + place_value n (bit_of gates x w (n - 1)) ≡ 2 * low_value n gates x w + place_value 0 (bit_of gates y w 0)
unfolding low_value
low_value-appended n gates x y w some small h =
    let m = n - 1 in
    let e : suc (n - 1) ≡ n = omega arith in
    let e' : n - 1 + 1 ≡ n = omega arith in
    let low = doubled_from m (bit_of gates x w) (bit_of gates y w) (λ k lt. h k (omega arith)) in
    let low_n : number_below n (bit_of gates y w) ≡ place_value 0 (bit_of gates y w 0) + 2 * number_below m (bit_of gates x w) = ap (λ k. number_below k (bit_of gates y w)) (sym e) ∙ low in
    let high : number_below n (bit_of gates x w) ≡ number_below m (bit_of gates x w) + place_value m (bit_of gates x w m) = ap (λ k. number_below k (bit_of gates x w)) (sym e') ∙ low_value-more m gates x w in
    let power : 2 ^ n ≡ 2 ^ m * 2 = ap (λ k. 2 ^ k) (sym e) ∙ pow-suc 2 m in
    let top : place_value n (bit_of gates x w m) ≡ 2 * place_value m (bit_of gates x w m) = twice (bit_of gates x w m) power in
    omega arith
  where
    twice : (b : Bool) → 2 ^ n ≡ 2 ^ (n - 1) * 2 → place_value n b ≡ 2 * place_value (n - 1) b
    twice true e = omega arith
    twice false e = omega arith

-- ---- one step

-- rest r, next bit x, divisor b: the doubled rest d, its highest bit over, the difference l and its carry f
pub record StepValue (r x b s m : ℕ) (bit : Bool) : Type 0 where
  pub value : 2 * r + x ≡ place_value 0 bit * b + s
  pub smaller : s < b

pub step_value : (r x b d l s m : ℕ) (over f : Bool) → r < b → x ≤ 1 → d < m → l < m → d + cond over m 0 ≡ 2 * r + x → l + cond f m 0 + b ≡ d + m → b < m → s ≡ cond (over || f) l d → StepValue r x b s m (over || f)
step_value r x b d l s m true true lt small hd hl e g hb is = absurd (omega arith)
step_value r x b d l s m true false lt small hd hl e g hb is = record { value = omega arith; smaller = omega arith }
step_value r x b d l s m false true lt small hd hl e g hb is = record { value = omega arith; smaller = omega arith }
step_value r x b d l s m false false lt small hd hl e g hb is = record { value = omega arith; smaller = omega arith }

pub place_small : (b : Bool) → place_value 0 b ≤ 1
place_small true = omega arith
place_small false = omega arith

-- ---- all steps

pub division_whole : (j width : ℕ) → j ≤ width → 0 < width → (17 * width + 1) * j ≤ 18 * (width * width)
division_whole j width h some =
    let most = mul-le-mul_left (17 * width + 1) h in
    let square = mul-le-mul_left width some in
    omega arith

pub division_room : (j width : ℕ) → j < width → 0 < width → (17 * width + 1) * j + (17 * width + 1) ≤ 18 * (width * width)
division_room j width h some = let most = division_whole (j + 1) width (omega arith) some in omega arith

pub record DivisionSoFar (old new : List Gate) (a b : List Lit) (width : ℕ) (quotient rest : List Lit) (j : ℕ) : Type 0 where
  pub size : length quotient ≡ 64
  pub rest_size : length rest ≡ 64
  pub grows : Grows old new ((17 * width + 1) * j)
  pub wires : All (IsWire new) quotient
  pub rest_wires : All (IsWire new) rest
  pub clear : (w : World) (k : ℕ) → k < width - j → bit_of new quotient w k ≡ false
  pub value : (w : World) → 0 < low_value width old b w → low_value width old a w ≡ low_value width new quotient w * low_value width old b w + low_value width new rest w * 2 ^ (width - j) + low_value (width - j) old a w
  pub smaller : (w : World) → 0 < low_value width old b w → low_value width new rest w < low_value width old b w

pub division_none : (gates : List Gate) (a b : List Lit) (width : ℕ) (quotient rest : List Lit) → length quotient ≡ 64 → length rest ≡ 64 → All (IsWire gates) quotient → All (IsWire gates) rest
    → ((w : World) (k : ℕ) → bit_of gates quotient w k ≡ false) → ((w : World) (k : ℕ) → bit_of gates rest w k ≡ false) → DivisionSoFar gates gates a b width quotient rest 0
division_none gates a b width quotient rest s t hq hr bq br = record {
  size = s;
  rest_size = t;
  grows = grows_none gates ((17 * width + 1) * 0);
  wires = hq;
  rest_wires = hr;
  clear = λ w k lt. bq w k;
  value = λ w h.
      let zero = low_value-clear width gates quotient w (λ k lt. bq w k) in
      let none = low_value-clear width gates rest w (λ k lt. br w k) in
      let all : width - 0 ≡ width = omega arith in
      let first = ap (λ n. n * low_value width gates b w) zero in
      let second = ap (λ n. n * 2 ^ (width - 0)) none in
      let third = ap (λ n. low_value n gates a w) all in
      omega arith;
  smaller = λ w h. (let none = low_value-clear width gates rest w (λ k lt. br w k) in omega arith);
}

-- a bit that is set where none held
number_below-set : (n i : ℕ) (f g : ℕ → Bool) → i < n → f i ≡ false → ((k : ℕ) → k < n → k ≢ i → g k ≡ f k) → number_below n g ≡ number_below n f + place_value i (g i)
unfolding number_below
number_below-set zero i f g lt clear h = absurd (omega arith)
number_below-set (suc n) i f g lt clear h =
    ⊎_elim
    (λ below. (let low = number_below-set n i f g below clear (λ k l ne. h k (omega arith) ne) in
    let top = ap (place_value n) (h n (omega arith) (omega arith)) in
    omega arith))
    (λ above. (let same : i ≡ n = omega arith in
    let low = number_below-same n g f (λ k l. h k (omega arith) (omega arith)) in
    let none = ap (place_value n) (ap f (sym same) ∙ clear) in
    let bit = ap (λ k. place_value k (g k)) same in
    omega arith))
    (cases_lt i n)

low_value-set_clear : (n i : ℕ) (gates : List Gate) (word : List Lit) (w : World) (l : Lit) → i < n → n ≤ length word → bit_of gates word w i ≡ false
    → low_value n gates (set word i l) w ≡ low_value n gates word w + place_value i (lit_holds gates l w)
unfolding low_value
low_value-set_clear n i gates word w l lt small clear =
    number_below-set n i (bit_of gates word w) (bit_of gates (set word i l) w) lt clear (λ k h ne. bit_of-set_other gates word w i k l (omega arith) ne)
    ∙ ap (λ b. number_below n (bit_of gates word w) + place_value i b) (bit_of-set_same gates word w i l (omega arith))

division_arith : (a q b r s l k p x y t : ℕ) → a ≡ q * b + r * (p * 2) + l → l ≡ k + x * p → 2 * r + x ≡ y * b + s → t ≡ q + y * p → a ≡ t * b + s * p + k
division_arith a q b r s l k p x y t ea el step et =
    let scaled = ap (λ z. z * p) step in
    let quotient = ap (λ z. z * b) et in
    omega arith

place_scaled : (i : ℕ) (b : Bool) → place_value i b ≡ place_value 0 b * 2 ^ i
place_scaled i true = omega arith
place_scaled i false = omega arith

pub division_more : {old mid new : List Gate} {a b : List Lit} {width : ℕ} {quotient rest : List Lit} {j : ℕ} (less : List Lit) (bit d : Lit) → DivisionSoFar old mid a b width quotient rest j
    → Grows mid new (17 * width + 1) → j < width → width ≤ 64 → length a ≡ 64 → length less ≡ 64 → All (IsWire old) a → All (IsWire old) b → All (IsWire new) less → IsWire new bit
    → ((w : World) → low_value width mid rest w < low_value width mid b w → 2 * low_value width mid rest w + place_value 0 (lit_holds mid (get_or a (width - 1 - j) d) w) ≡ place_value 0 (lit_holds new bit w) * low_value width mid b w + low_value width new less w)
    → ((w : World) → low_value width mid rest w < low_value width mid b w → low_value width new less w < low_value width mid b w)
    → DivisionSoFar old new a b width (set quotient (width - 1 - j) bit) less (j + 1)
division_more {old} {mid} {new} {a} {b} {width} {quotient} {rest} {j} less bit d r g lt small sa sl ha hb hl wire step smaller =
    let i = width - 1 - j in
    let size = r.size in
    let here : width - (j + 1) ≡ i = omega arith in
    let before : width - j ≡ i + 1 = omega arith in
    let before_suc : width - j ≡ suc i = omega arith in
    record {
      size = length-set quotient i bit ∙ size;
      rest_size = sl;
      grows = grows_within ((17 * width + 1) * (j + 1)) (grows_then r.grows g) (omega arith);
      wires = All-set (IsWire new) quotient i bit wire (all_still g quotient r.wires);
      rest_wires = hl;
      clear = λ w k h. bit_of-set_other new quotient w i k bit (omega arith) (omega arith) ∙ bit_of-later g quotient r.wires w k ∙ r.clear w k (omega arith);
      value = λ w h.
          let divisor = low_value-later r.grows width b hb w in
          let less_rest = r.smaller w h in
          let one : 2 * low_value width mid rest w + place_value 0 (bit_of old a w i) ≡ place_value 0 (lit_holds new bit w) * low_value width old b w + low_value width new less w =
          ap (λ t. 2 * low_value width mid rest w + place_value 0 t) (sym (lit_at mid a w i d (omega arith) ∙ bit_of-later r.grows a ha w i))
          ∙ step w (omega arith) ∙ ap (λ n. place_value 0 (lit_holds new bit w) * n + low_value width new less w) divisor in
          let set_bit : low_value width new (set quotient i bit) w ≡ low_value width mid quotient w + place_value 0 (lit_holds new bit w) * 2 ^ i =
          low_value-set_clear width i new quotient w bit (omega arith) (omega arith) (bit_of-later g quotient r.wires w i ∙ r.clear w i (omega arith))
          ∙ ap (λ n. n + place_value i (lit_holds new bit w)) (low_value-later g width quotient r.wires w) ∙ ap (λ n. low_value width mid quotient w + n) (place_scaled i (lit_holds new bit w)) in
          let low : low_value (width - j) old a w ≡ low_value i old a w + place_value 0 (bit_of old a w i) * 2 ^ i =
          ap (λ n. low_value n old a w) before ∙ low_value-more i old a w ∙ ap (λ n. low_value i old a w + n) (place_scaled i (bit_of old a w i)) in
          let power : 2 ^ (width - j) ≡ 2 ^ i * 2 = ap (λ n. 2 ^ n) before_suc ∙ pow-suc 2 i in
          let whole : low_value width old a w ≡ low_value width mid quotient w * low_value width old b w + low_value width mid rest w * (2 ^ i * 2) + low_value (width - j) old a w =
          r.value w h ∙ ap (λ n. low_value width mid quotient w * low_value width old b w + low_value width mid rest w * n + low_value (width - j) old a w) power in
          division_arith (low_value width old a w) (low_value width mid quotient w) (low_value width old b w) (low_value width mid rest w) (low_value width new less w) (low_value (width - j) old a w) (low_value i old a w) (2 ^ i)
          (place_value 0 (bit_of old a w i)) (place_value 0 (lit_holds new bit w)) (low_value width new (set quotient i bit) w) whole low one set_bit
          ∙ ap (λ n. low_value width new (set quotient i bit) w * low_value width old b w + low_value width new less w * 2 ^ n + low_value n old a w) (sym here);
      smaller = λ w h.
          let divisor = low_value-later r.grows width b hb w in
          let less_rest = r.smaller w h in
          let next = smaller w (omega arith) in
          omega arith;
    }

pub division_all : {old new : List Gate} {a b : List Lit} {width : ℕ} {quotient rest : List Lit} {j : ℕ} → DivisionSoFar old new a b width quotient rest j → width ≤ j → (w : World) → 0 < low_value width old b w
    → low_value width old a w ≡ low_value width new quotient w * low_value width old b w + low_value width new rest w
division_all {old} {new} {a} {b} {width} {quotient} {rest} {j} r le w h =
    let none : width - j ≡ 0 = omega arith in
    let zero = ap (λ n. low_value n old a w) none ∙ low_value-none old a w in
    let power : low_value width new rest w * 2 ^ (width - j) ≡ low_value width new rest w * 1 = ap (λ n. low_value width new rest w * 2 ^ n) none in
    let whole = r.value w h in
    omega arith
