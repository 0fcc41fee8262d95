-- Members of a rising list, and bits past the highest.
use Rattle.std.proofs.Common.{◌≡◌, ◌≢◌, ℕ, zero, suc, ◌+◌, ◌≤◌, ◌<◌, ◌-◌, ◌^◌, Bool, true, false, ◌==◌, List, length, get_or, Result, Ok, Err, is_ok, refl, sym, ap, arith, inl, inr, eq-eqb, eqb-true}
use Rattle.std.specs.Result.{MatchResult}
use Rattle.std.specs.List.{list_any}
use Rattle.std.specs.List.Sorted.{IsStrictlyIncreasing, IsBinarySearchResult}
use Rattle.std.specs.Ordering.{nat_cmp}
use Rattle.std.specs.Int.{bit_at}
use Rattle.std.proofs.lemmas.Bool.{cases_lt}
use Rattle.std.proofs.lemmas.List.{get_or_default}
use Rattle.std.proofs.lemmas.Nat.Bits.{bit_at_above}
use Rattle.std.proofs.lemmas.List.Sorted.{searched}
use Rattle.std.proofs.lemmas.List.Folds.{list_any_at, list_any_none}

rises : (xs : List ℕ) → IsStrictlyIncreasing xs → (n i : ℕ) → i + n < length xs → get_or xs i 0 ≤ get_or xs (i + n) 0
rises xs h zero i lt = let e : i + 0 ≡ i = omega arith in omega (arith, ap (λ k. get_or xs k 0) e)
rises xs h (suc n) i lt =
    let e : i + suc n ≡ (i + n) + 1 = omega arith in
    let below = rises xs h n i (omega arith) in let step = h (i + n) (omega arith) in
    omega (arith, ap (λ k. get_or xs k 0) e)

differ : (a b : ℕ) → a ≢ b → a == b ≡ false
differ a b h = by_test (a == b) refl
  where
    by_test : (t : Bool) → a == b ≡ t → a == b ≡ false
    by_test false e = e
    by_test true e = absurd (h (eqb-true a b e))

in_order : (xs : List ℕ) → IsStrictlyIncreasing xs → (i j : ℕ) → i ≤ j → j < length xs → get_or xs i 0 ≤ get_or xs j 0
in_order xs h i j le lt = let e : i + (j - i) ≡ j = omega arith in let x = rises xs h (j - i) i (omega arith) in omega (arith, ap (λ k. get_or xs k 0) e)

-- what a binary search finds is a member
pub found : (xs : List ℕ) (x : ℕ) (r : Result ℕ ℕ) → IsBinarySearchResult (λ y. nat_cmp y x) xs r → IsStrictlyIncreasing xs → is_ok r ≡ list_any (λ y. y == x) xs
found xs x r h rising = by_cases r (searched xs x r h (in_order xs rising))
  where
    by_cases : (r : Result ℕ ℕ) → MatchResult r (λ i. (i < length xs) × (get_or xs i 0 ≡ x)) (λ i. (i ≤ length xs) × ((k : ℕ) → k < i → get_or xs k 0 < x) × ((k : ℕ) → i ≤ k → k < length xs → x < get_or xs k 0))
        → is_ok r ≡ list_any (λ y. y == x) xs
    by_cases (Ok i) m = sym (list_any_at (λ y. y == x) xs i 0 m.0 (eq-eqb (get_or xs i 0) x m.1))
    by_cases (Err i) m = sym (list_any_none (λ y. y == x) xs (λ k d lt. differ (get_or xs k d) x (apart i m k d lt)))
      where
        apart : (i : ℕ) → (i ≤ length xs) × ((k : ℕ) → k < i → get_or xs k 0 < x) × ((k : ℕ) → i ≤ k → k < length xs → x < get_or xs k 0) → (k d : ℕ) → k < length xs → get_or xs k d ≢ x
        apart i m k d lt e = let f = get_or_default xs k d 0 lt in elim (cases_lt k i) [
          | inl below ↦ let y = m.1 k below in omega arith
          | inr above ↦ let y = m.2 k above lt in omega arith
        ]

-- a number of 64 bits has none past them
pub no_bit : (mask bit : ℕ) → mask < 2 ^ 64 → 64 ≤ bit → bit_at mask bit ≡ 0
no_bit mask bit small past = bit_at_above mask 64 bit small past
