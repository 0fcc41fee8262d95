-- The bits of a word, and the numbers of its lowest bits.
use Rattle.std.proofs.Common.{◌≡◌, ℕ, zero, suc, ◌+◌, ◌-◌, ◌*◌, ◌%◌, ◌^◌, ◌<◌, ◌≤◌, ◌≢◌, Bool, true, false, not, cond, List, length, get_or, set, replicate, refl, sym, ◌∙◌, ap, ⊎_elim, arith}
use Rattle.std.proofs.lemmas.List.{get_or-map, get_or-set_same, get_or-set_other, length-set}
use Rattle.std.specs.Int.{bit_at}
use Rattle.std.proofs.lemmas.Bool.{cases_lt}
use Rattle.std.proofs.lemmas.Nat.{pow-add, pow_pos}
use Rattle.std.proofs.lemmas.Nat.Bits.{bit_at_cat_low, bit_at_cat_high, same_from_bits_below}
use Rattle.std.proofs.Math.Nat.{pow-suc, add-mul-mod_self_right}
use native.Mathlib.Nat.{mod-eq_of_lt}
use Rattle.std.proofs.lemmas.List.Elements.{All-replicate}
use Rattle.std.specs.Prelude.{All}
use Rattle.circuit.specs.Truth.{World}
use Rattle.circuit.specs.Bits.{at_same, bits_stay}
use Rattle.circuit.specs.Wires.{IsWire, lit_holds}
use Rattle.circuit.specs.declared.lit.Lit.{Lit}
use Rattle.circuit.specs.declared.lit.Gate.{Gate}
use Rattle.circuit.proofs.Gates.{constant_wire}
use Rattle.bit_words.specs.Words.{Grows, bit_of, place_value, number_below, low_value, word_value}

pub bit_of-lit : (gates : List Gate) (word : List Lit) (w : World) (k : ℕ) (d : Lit) → k < length word → bit_of gates word w k ≡ lit_holds gates (get_or word k d) w
unfolding bit_of
bit_of-lit gates word w k d h = get_or-map (λ l. lit_holds gates l w) word k d false h

pub bit_of-set_same : (gates : List Gate) (word : List Lit) (w : World) (i : ℕ) (l : Lit) → i < length word → bit_of gates (set word i l) w i ≡ lit_holds gates l w
bit_of-set_same gates word w i l h =
    bit_of-lit gates (set word i l) w i l (omega (arith, length-set {A = Lit}))
    ∙ ap (λ x. lit_holds gates x w) (get_or-set_same word i l l h)

pub bit_of-set_other : (gates : List Gate) (word : List Lit) (w : World) (i k : ℕ) (l : Lit) → k < length word → k ≢ i → bit_of gates (set word i l) w k ≡ bit_of gates word w k
bit_of-set_other gates word w i k l h n =
    bit_of-lit gates (set word i l) w k l (omega (arith, length-set {A = Lit}))
    ∙ ap (λ x. lit_holds gates x w) (get_or-set_other word i k l l n)
    ∙ sym (bit_of-lit gates word w k l h)

-- older words hold what they held
pub bit_of-later : {a b : List Gate} {n : ℕ} → Grows a b n → (word : List Lit) → All (IsWire a) word → (w : World) (k : ℕ) → bit_of b word w k ≡ bit_of a word w k
unfolding bit_of
bit_of-later f word h w k = ap (λ xs. get_or xs k false) (at_same word w f.older h)

pub all_still : {a b : List Gate} {n : ℕ} → Grows a b n → (word : List Lit) → All (IsWire a) word → All (IsWire b) word
all_still f word h = bits_stay word f.older h

-- ---- numbers

pub number_below-same : (n : ℕ) (f g : ℕ → Bool) → ((k : ℕ) → k < n → f k ≡ g k) → number_below n f ≡ number_below n g
unfolding number_below
number_below-same zero f g h = refl
number_below-same (suc n) f g h =
    let e : f n ≡ g n = h n (omega arith) in
    let low = number_below-same n f g (λ k lt. h k (omega arith)) in
    ap (λ x. x + place_value n (f n)) low ∙ ap (λ b. number_below n g + place_value n b) e

pub low_value-same : (n : ℕ) (a b : List Gate) (x y : List Lit) (w : World) → ((k : ℕ) → k < n → bit_of a x w k ≡ bit_of b y w k) → low_value n a x w ≡ low_value n b y w
unfolding low_value
low_value-same n a b x y w h = number_below-same n (bit_of a x w) (bit_of b y w) h

pub low_value-later : {a b : List Gate} {m : ℕ} → Grows a b m → (n : ℕ) (word : List Lit) → All (IsWire a) word → (w : World) → low_value n b word w ≡ low_value n a word w
low_value-later {a} {b} f n word h w = low_value-same n b a word word w (λ k lt. bit_of-later f word h w k)

pub low_value-more : (n : ℕ) (gates : List Gate) (word : List Lit) (w : World) → low_value (n + 1) gates word w ≡ low_value n gates word w + place_value n (bit_of gates word w n)
unfolding low_value number_below
low_value-more n gates word w = let e : n + 1 ≡ suc n = omega arith in ap (λ m. number_below m (bit_of gates word w)) e

pub low_value-none : (gates : List Gate) (word : List Lit) (w : World) → low_value 0 gates word w ≡ 0
unfolding low_value number_below
low_value-none gates word w = refl

pub low_value-set : (n : ℕ) (gates : List Gate) (word : List Lit) (w : World) (l : Lit) → n < length word → low_value n gates (set word n l) w ≡ low_value n gates word w
low_value-set n gates word w l h =
    low_value-same n gates gates (set word n l) word w (λ k lt. bit_of-set_other gates word w n k l (omega arith) (omega arith))

-- ---- the word without bits

abbrev pub no_lit : Lit
no_lit = record { wire = 0; negated = true }

pub all_blank : (gates : List Gate) (n : ℕ) → All (IsWire gates) (replicate n no_lit)
all_blank gates n = let h : IsWire gates no_lit = omega arith in All-replicate (IsWire gates) n no_lit h

pub no_lit_holds : (gates : List Gate) (w : World) → lit_holds gates no_lit w ≡ false
no_lit_holds gates w = ap not (constant_wire gates w)

pub bit_of-blank : (gates : List Gate) (n : ℕ) (w : World) (k : ℕ) → bit_of gates (replicate n no_lit) w k ≡ false
unfolding bit_of
bit_of-blank gates zero w k = refl
bit_of-blank gates (suc n) w zero = no_lit_holds gates w
bit_of-blank gates (suc n) w (suc k) = bit_of-blank gates n w k

-- ---- a word that is made bit by bit

pub lit_at : (gates : List Gate) (word : List Lit) (w : World) (k : ℕ) (d : Lit) → k < length word → lit_holds gates (get_or word k d) w ≡ bit_of gates word w k
lit_at gates word w k d h = sym (bit_of-lit gates word w k d h)

-- ---- digits

abbrev digit : Bool → ℕ
digit b = cond b 1 0

pub place_is : (n : ℕ) (b : Bool) → place_value n b ≡ cond b 1 0 * 2 ^ n
place_is n true = omega arith
place_is n false = omega arith

pub number_below-lt : (n : ℕ) (f : ℕ → Bool) → number_below n f < 2 ^ n
unfolding number_below
number_below-lt zero f = omega arith
number_below-lt (suc n) f =
    let low = number_below-lt n f in
    let twice = pow-suc 2 n in
    let top = place_le n (f n) in
    omega arith
  where
    place_le : (n : ℕ) (b : Bool) → place_value n b ≤ 2 ^ n
    place_le n true = omega arith
    place_le n false = omega arith

pub bit_at-number_below : (n : ℕ) (f : ℕ → Bool) (k : ℕ) → k < n → bit_at (number_below n f) k ≡ cond (f k) 1 0
unfolding number_below
bit_at-number_below zero f k h = absurd (omega arith)
bit_at-number_below (suc n) f k h =
    let low = number_below n f in
    let is : low + place_value n (f n) ≡ cond (f n) 1 0 * 2 ^ n + low = omega (arith, place_is n (f n)) in
    let rest = number_below-lt n f in
    ap (λ x. bit_at x k) is ∙ ⊎_elim
    (λ lt. bit_at_cat_low (cond (f n) 1 0) n low k lt ∙ bit_at-number_below n f k lt)
    (λ le. let e : k ≡ n = omega arith in
    let z : k - n ≡ 0 = omega arith in
    bit_at_cat_high (cond (f n) 1 0) n low k rest le ∙ ap (λ i. bit_at (cond (f n) 1 0) i) z ∙ lowest (f n) ∙ ap (λ i. cond (f i) 1 0) (sym e))
    (cases_lt k n)
  where
    lowest : (b : Bool) → bit_at (cond b 1 0) 0 ≡ cond b 1 0
    lowest true = refl
    lowest false = refl

pub number_below-mod : (n d : ℕ) (f : ℕ → Bool) → number_below (n + d) f % 2 ^ n ≡ number_below n f
unfolding number_below
number_below-mod n zero f = let e : n + 0 ≡ n = omega arith in
    ap (λ m. number_below m f % 2 ^ n) e ∙ mod-eq_of_lt (number_below-lt n f)
number_below-mod n (suc d) f =
    let e : n + suc d ≡ suc (n + d) = omega arith in
    let p : 2 ^ (n + d) ≡ 2 ^ n * 2 ^ d = pow-add 2 n d in
    let b = cond (f (n + d)) 1 0 in
    let split : number_below (n + d) f + place_value (n + d) (f (n + d)) ≡ number_below (n + d) f + (b * 2 ^ d) * 2 ^ n =
    ap (λ x. number_below (n + d) f + x) (place_is (n + d) (f (n + d)) ∙ ap (λ x. b * x) p ∙ (let g : b * (2 ^ n * 2 ^ d) ≡ (b * 2 ^ d) * 2 ^ n = omega arith in g)) in
    ap (λ m. number_below m f % 2 ^ n) e ∙ ap (λ x. x % 2 ^ n) split ∙ add-mul-mod_self_right (number_below (n + d) f) (b * 2 ^ d) (2 ^ n) ∙ number_below-mod n d f

-- the lowest bits of a word are its remainder
pub low_value-mod : (n : ℕ) (gates : List Gate) (word : List Lit) (w : World) → n ≤ 64 → low_value n gates word w ≡ word_value gates word w % 2 ^ n
unfolding low_value word_value
low_value-mod n gates word w h =
    let e : n + (64 - n) ≡ 64 = omega arith in
    sym (ap (λ m. number_below m (bit_of gates word w) % 2 ^ n) (sym e) ∙ number_below-mod n (64 - n) (bit_of gates word w))

pub low_value-lt : (n : ℕ) (gates : List Gate) (word : List Lit) (w : World) → low_value n gates word w < 2 ^ n
unfolding low_value
low_value-lt n gates word w = number_below-lt n (bit_of gates word w)

pub bit_at-word_value : (gates : List Gate) (word : List Lit) (w : World) (k : ℕ) → k < 64 → bit_at (word_value gates word w) k ≡ cond (bit_of gates word w k) 1 0
unfolding word_value low_value
bit_at-word_value gates word w k h = bit_at-number_below 64 (bit_of gates word w) k h

pub bit_at-low_value : (n : ℕ) (gates : List Gate) (word : List Lit) (w : World) (k : ℕ) → k < n → bit_at (low_value n gates word w) k ≡ cond (bit_of gates word w k) 1 0
unfolding low_value
bit_at-low_value n gates word w k h = bit_at-number_below n (bit_of gates word w) k h

pub word_value-lt : (gates : List Gate) (word : List Lit) (w : World) → word_value gates word w < 2 ^ 64
unfolding word_value
word_value-lt gates word w = low_value-lt 64 gates word w

-- a word is the number that has its bits
pub word_value-is : (gates : List Gate) (word : List Lit) (w : World) (n : ℕ) → n < 2 ^ 64 → ((k : ℕ) → k < 64 → cond (bit_of gates word w k) 1 0 ≡ bit_at n k) → word_value gates word w ≡ n
word_value-is gates word w n h bits =
    same_from_bits_below 64 (word_value gates word w) n (word_value-lt gates word w) h (λ k lt. bit_at-word_value gates word w k lt ∙ bits k lt)

-- the complement of the lowest bits
pub number_below-not : (n : ℕ) (f g : ℕ → Bool) → ((k : ℕ) → k < n → f k ≡ not (g k)) → number_below n f + number_below n g + 1 ≡ 2 ^ n
unfolding number_below
number_below-not zero f g h = omega arith
number_below-not (suc n) f g h =
    let low = number_below-not n f g (λ k lt. h k (omega arith)) in
    let top = ap (place_value n) (h n (omega arith)) in
    let twice = pow-suc 2 n in
    let both = other n (g n) in
    omega arith
  where
    other : (n : ℕ) (b : Bool) → place_value n (not b) + place_value n b ≡ 2 ^ n
    other n true = omega arith
    other n false = omega arith

pub low_value-not : (n : ℕ) (a b : List Gate) (x y : List Lit) (w : World) → ((k : ℕ) → k < n → bit_of a x w k ≡ not (bit_of b y w k)) → low_value n a x w + low_value n b y w + 1 ≡ 2 ^ n
unfolding low_value
low_value-not n a b x y w h = number_below-not n (bit_of a x w) (bit_of b y w) h

-- no bit holds
pub number_below-clear : (n : ℕ) (f : ℕ → Bool) → ((k : ℕ) → k < n → f k ≡ false) → number_below n f ≡ 0
unfolding number_below
number_below-clear zero f h = refl
number_below-clear (suc n) f h =
    let low = number_below-clear n f (λ k lt. h k (omega arith)) in
    let top = ap (place_value n) (h n (omega arith)) in
    omega arith

pub low_value-clear : (n : ℕ) (gates : List Gate) (word : List Lit) (w : World) → ((k : ℕ) → k < n → bit_of gates word w k ≡ false) → low_value n gates word w ≡ 0
unfolding low_value
low_value-clear n gates word w h = number_below-clear n (bit_of gates word w) h

pub place_value-is : (n : ℕ) (b : Bool) → place_value n b ≡ cond b 1 0 * 2 ^ n
place_value-is n b = place_is n b

pub word_value-same : (a b : List Gate) (x y : List Lit) (w : World) → ((k : ℕ) → k < 64 → bit_of a x w k ≡ bit_of b y w k) → word_value a x w ≡ word_value b y w
unfolding word_value
word_value-same a b x y w h = low_value-same 64 a b x y w h

number_below-zero : (n : ℕ) (f : ℕ → Bool) → number_below n f ≡ 0 → (k : ℕ) → k < n → f k ≡ false
unfolding number_below
number_below-zero zero f e k h = absurd (omega arith)
number_below-zero (suc n) f e k h =
    let power = pow_pos n in
    ⊎_elim
    (λ lt. number_below-zero n f (omega arith) k lt)
    (λ le. let same : k ≡ n = omega arith in ap f same ∙ top n (f n) (omega arith))
    (cases_lt k n)
  where
    top : (n : ℕ) (b : Bool) → place_value n b ≡ 0 → b ≡ false
    top n true e = let power = pow_pos n in absurd (omega arith)
    top n false e = refl

pub low_value-zero : (n : ℕ) (gates : List Gate) (word : List Lit) (w : World) → low_value n gates word w ≡ 0 → (k : ℕ) → k < n → bit_of gates word w k ≡ false
unfolding low_value
low_value-zero n gates word w e k h = number_below-zero n (bit_of gates word w) e k h
