-- Words of which the bits are moved to other places, and the choice of one of two.
use Rattle.std.proofs.Common.{◌≡◌, ℕ, zero, suc, ◌+◌, ◌-◌, ◌*◌, ◌/◌, ◌%◌, ◌^◌, ◌<◌, ◌≤◌, Bool, true, false, not, cond, List, refl, sym, subst, ◌∙◌, ap, ⊎_elim, arith}
use Rattle.std.specs.Int.{bit_at}
use Rattle.std.proofs.lemmas.Bool.{cases_lt}
use Rattle.std.proofs.lemmas.Nat.{pow-add, pow_pos, mod-mul-add, shr-shr}
use Rattle.std.proofs.lemmas.Nat.Bits.{same_from_bits_below, bit_at_above}
use native.Mathlib.Nat.{div-add-mod', div-le_self, mul-le-mul_right}
use Rattle.circuit.specs.Truth.{World}
use Rattle.circuit.specs.declared.lit.Lit.{Lit}
use Rattle.circuit.specs.declared.lit.Gate.{Gate}
use Rattle.bit_words.specs.Words.{bit_of, place_value, number_below, low_value, word_value}
use Rattle.bit_words.proofs.Digits.{place_is, number_below-clear, number_below-not, number_below-lt, number_below-mod, bit_at-number_below, low_value-more, low_value-same}

abbrev digit : Bool → ℕ
digit b = cond b 1 0

-- ---- moved bits

raised_from : (by m : ℕ) (f g : ℕ → Bool) → ((k : ℕ) → k < by → g k ≡ false) → ((k : ℕ) → by ≤ k → k < by + m → g k ≡ f (k - by)) → number_below (by + m) g ≡ number_below m f * 2 ^ by
unfolding number_below
raised_from by zero f g low high = let e : by + 0 ≡ by = omega arith in ap (λ n. number_below n g) e ∙ number_below-clear by g low ∙ (let z : 0 ≡ 0 * 2 ^ by = omega arith in z)
raised_from by (suc m) f g low high =
    let e : by + suc m ≡ suc (by + m) = omega arith in
    let i : by + m - by ≡ m = omega arith in
    let before = raised_from by m f g low (λ k le lt. high k le (omega arith)) in
    let bit : g (by + m) ≡ f m = high (by + m) (omega arith) (omega arith) ∙ ap f i in
    let p : 2 ^ (by + m) ≡ 2 ^ by * 2 ^ m = pow-add 2 by m in
    let b = cond (f m) 1 0 in
    let top : place_value (by + m) (g (by + m)) ≡ b * 2 ^ m * 2 ^ by =
    ap (place_value (by + m)) bit ∙ place_is (by + m) (f m) ∙ ap (λ x. b * x) p ∙ (let q : b * (2 ^ by * 2 ^ m) ≡ b * 2 ^ m * 2 ^ by = omega arith in q) in
    let place = place_is m (f m) in
    ap (λ n. number_below n g) e ∙ ap (λ x. x + place_value (by + m) (g (by + m))) before ∙ ap (λ x. number_below m f * 2 ^ by + x) top
    ∙ (let r : number_below m f * 2 ^ by + b * 2 ^ m * 2 ^ by ≡ (number_below m f + b * 2 ^ m) * 2 ^ by = omega arith in r) ∙ ap (λ x. (number_below m f + x) * 2 ^ by) (sym place)

number_below-raised : (n by : ℕ) (f g : ℕ → Bool) → by ≤ n → ((k : ℕ) → k < by → g k ≡ false) → ((k : ℕ) → by ≤ k → k < n → g k ≡ f (k - by))
    → number_below n g ≡ number_below n f * 2 ^ by % 2 ^ n
number_below-raised n by f g le low high =
    let m = n - by in
    let e : by + m ≡ n = omega arith in
    let e' : m + by ≡ n = omega arith in
    let part = raised_from by m f g low (λ k l lt. high k l (omega arith)) in
    let rest = number_below-mod m by f in
    let q = number_below (m + by) f / 2 ^ m in
    let split = div-add-mod' (number_below (m + by) f) (2 ^ m) in
    let p : 2 ^ (m + by) ≡ 2 ^ m * 2 ^ by = pow-add 2 m by in
    let scaled_lt : number_below m f * 2 ^ by < 2 ^ m * 2 ^ by =
    (let lt = number_below-lt m f in let power = pow_pos by in let more : (number_below m f + 1) * 2 ^ by ≤ 2 ^ m * 2 ^ by = mul-le-mul_right (2 ^ by) (omega arith) in omega arith) in
    let small : number_below m f * 2 ^ by < 2 ^ (m + by) = subst (λ x. number_below m f * 2 ^ by < x) (sym p) scaled_lt in
    let whole : number_below (m + by) f * 2 ^ by ≡ q * 2 ^ (m + by) + number_below m f * 2 ^ by =
    ap (λ x. x * 2 ^ by) (sym split ∙ ap (λ x. q * 2 ^ m + x) rest) ∙ (let r : (q * 2 ^ m + number_below m f) * 2 ^ by ≡ q * (2 ^ m * 2 ^ by) + number_below m f * 2 ^ by = omega arith in r) ∙ ap (λ x. q * x + number_below m f * 2 ^ by) (sym p) in
    ap (λ x. number_below x g) (sym e) ∙ part ∙ sym (mod-mul-add q (2 ^ (m + by)) (number_below m f * 2 ^ by) small) ∙ ap (λ x. x % 2 ^ (m + by)) (sym whole)
    ∙ ap (λ x. number_below x f * 2 ^ by % 2 ^ x) e'

pub low_value-raised : (n by : ℕ) (gates : List Gate) (x y : List Lit) (w : World) → by ≤ n → n ≤ 64 → ((k : ℕ) → k < by → bit_of gates y w k ≡ false)
    → ((k : ℕ) → by ≤ k → k < 64 → bit_of gates y w k ≡ bit_of gates x w (k - by)) → low_value n gates y w ≡ low_value n gates x w * 2 ^ by % 2 ^ n
unfolding low_value
low_value-raised n by gates x y w le small low high = number_below-raised n by (bit_of gates x w) (bit_of gates y w) le low (λ k l lt. high k l (omega arith))

number_below-lowered : (n by : ℕ) (f g : ℕ → Bool) → ((k : ℕ) → k + by < n → g k ≡ f (k + by)) → ((k : ℕ) → n ≤ k + by → k < n → g k ≡ false) → number_below n g ≡ number_below n f / 2 ^ by
number_below-lowered n by f g low high =
    let whole = number_below n f in
    let small = number_below-lt n f in
    let less = div-le_self whole (2 ^ by) in
    same_from_bits_below n (number_below n g) (whole / 2 ^ by) (number_below-lt n g) (omega arith) (λ k lt.
    let moved : bit_at (whole / 2 ^ by) k ≡ bit_at whole (k + by) = (let e : by + k ≡ k + by = omega arith in ap (λ x. x % 2) (shr-shr whole by k ∙ ap (λ i. whole / 2 ^ i) e)) in
    bit_at-number_below n g k lt ∙ ⊎_elim
    (λ h. ap (λ b. digit b) (low k h) ∙ sym (bit_at-number_below n f (k + by) h))
    (λ h. ap (λ b. digit b) (high k h lt) ∙ sym (bit_at_above whole n (k + by) small h))
    (cases_lt (k + by) n) ∙ sym moved)

pub word_value-lowered : (by : ℕ) (gates : List Gate) (x y : List Lit) (w : World) → ((k : ℕ) → k + by < 64 → bit_of gates y w k ≡ bit_of gates x w (k + by))
    → ((k : ℕ) → 64 ≤ k + by → k < 64 → bit_of gates y w k ≡ false) → word_value gates y w ≡ word_value gates x w / 2 ^ by
unfolding word_value low_value
word_value-lowered by gates x y w low high = number_below-lowered 64 by (bit_of gates x w) (bit_of gates y w) low high

-- the same where the sign is put above: the complements are moved
pub word_value-lowered_sign : (by : ℕ) (gates : List Gate) (x y : List Lit) (w : World) → ((k : ℕ) → k + by < 64 → bit_of gates y w k ≡ bit_of gates x w (k + by))
    → ((k : ℕ) → 64 ≤ k + by → k < 64 → bit_of gates y w k ≡ true) → word_value gates y w + (2 ^ 64 - 1 - word_value gates x w) / 2 ^ by + 1 ≡ 2 ^ 64
unfolding word_value low_value
word_value-lowered_sign by gates x y w low high =
    let f : ℕ → Bool = λ k. not (bit_of gates x w k) in
    let g : ℕ → Bool = λ k. not (bit_of gates y w k) in
    let moved = number_below-lowered 64 by f g (λ k h. ap not (low k h)) (λ k h lt. ap not (high k h lt)) in
    let first = number_below-not 64 f (bit_of gates x w) (λ k h. refl) in
    let second = number_below-not 64 g (bit_of gates y w) (λ k h. refl) in
    let is : number_below 64 f ≡ 2 ^ 64 - 1 - number_below 64 (bit_of gates x w) = omega arith in
    let turned = moved ∙ ap (λ n. n / 2 ^ by) is in
    omega arith

pub word_value-top : (gates : List Gate) (word : List Lit) (w : World) → word_value gates word w ≡ low_value 63 gates word w + place_value 63 (bit_of gates word w 63)
unfolding word_value
word_value-top gates word w = low_value-more 63 gates word w

-- the lowest bits of one of two words
pub low_value-chosen : (n : ℕ) (new old : List Gate) (test : Bool) (r x y : List Lit) (w : World) → ((k : ℕ) → k < n → bit_of new r w k ≡ cond test (bit_of old x w k) (bit_of old y w k))
    → low_value n new r w ≡ cond test (low_value n old x w) (low_value n old y w)
low_value-chosen n new old true r x y w h = low_value-same n new old r x w h
low_value-chosen n new old false r x y w h = low_value-same n new old r y w h
