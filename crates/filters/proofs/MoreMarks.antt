-- One more mark, and one more number.
use Rattle.std.proofs.Common.{◌≡◌, ℕ, ◌+◌, ◌≤◌, ◌<◌, ◌||◌, ◌==◌, Bool, true, false, List, [], ◌∷◌, ◌++◌, length, get_or, set, take, inl, inr, refl, sym, ◌∙◌, ap, arith, eq-eqb, get_or-set_same, get_or-set_other, length-append}
use Rattle.std.proofs.lemmas.Bool.{cases_lt, cases_eq, ne_eqb, or_right, both_ways}
use Rattle.std.proofs.lemmas.List.{get_or_push}
use Rattle.std.proofs.lemmas.List.Folds.{list_any_more, list_any_at, list_any-append}
use Rattle.std.specs.List.Sorted.{IsStrictlyIncreasing}
use lib.ListN.{get_or-append}
use Rattle.filters.specs.Parts.{is_among}

pub or_with_false : (x y : Bool) → y ≡ false → x ≡ (x || y)
or_with_false true y h = refl
or_with_false false y h = sym h

-- a mark more
pub set_is : (xs : List Bool) (at k : ℕ) → at < length xs → get_or (set xs at true) k false ≡ (get_or xs k false || (at == k))
set_is xs at k lt = elim (cases_eq at k) [
  | inl e ↦ ap (λ m. get_or (set xs at true) m false) (sym e) ∙ get_or-set_same xs at true false lt ∙ sym (or_right (get_or xs k false) (at == k) (eq-eqb at k e))
  | inr ne ↦ get_or-set_other xs at k true false (λ e. ne (sym e)) ∙ or_with_false (get_or xs k false) (at == k) (ne_eqb at k ne)
]

pub mark_more : (numbers : List ℕ) (xs : List Bool) (i : ℕ) → i < length numbers → get_or numbers i 0 < length xs → ((k : ℕ) → get_or xs k false ≡ is_among (take i numbers) k)
    → (k : ℕ) → get_or (set xs (get_or numbers i 0) true) k false ≡ is_among (take (i + 1) numbers) k
mark_more numbers xs i lt within each k =
    set_is xs (get_or numbers i 0) k within ∙ ap (λ b. b || (get_or numbers i 0 == k)) (each k) ∙ sym (list_any_more (λ m. m == k) numbers i 0 lt)

pub is_member : (numbers : List ℕ) (i : ℕ) → i < length numbers → is_among numbers (get_or numbers i 0) ≡ true
is_member numbers i lt = list_any_at (λ m. m == get_or numbers i 0) numbers i 0 lt (eq-eqb _ _ refl)

among_more : (xs : List ℕ) (i k : ℕ) → is_among (xs ++ i ∷ []) k ≡ (is_among xs k || (i == k))
among_more xs i k = list_any-append (λ m. m == k) xs (i ∷ []) ∙ ap (λ b. is_among xs k || b) (sym (or_with_false (i == k) false refl))

less_than : (xs : List ℕ) (i k : ℕ) → k < length xs → ((m : ℕ) → i ≤ m → is_among xs m ≡ false) → get_or xs k 0 < i
less_than xs i k lt below = elim (cases_lt (get_or xs k 0) i) [
  | inl less ↦ less
  | inr ge ↦ absurd (both_ways (is_among xs (get_or xs k 0)) (below (get_or xs k 0) ge) (is_member xs k lt))
]

-- a number more, above all others
pub rise_more : (xs : List ℕ) (i : ℕ) → IsStrictlyIncreasing xs → ((m : ℕ) → i ≤ m → is_among xs m ≡ false) → IsStrictlyIncreasing (xs ++ i ∷ [])
rise_more xs i rise below k lt = elim (cases_lt (k + 1) (length xs)) [
  | inl old ↦ let a = get_or-append xs (i ∷ []) 0 k (omega arith) in let b = get_or-append xs (i ∷ []) 0 (k + 1) old in let h = rise k old in omega arith
  | inr new ↦
      let size : length xs ≡ k + 1 = omega (arith, length-append xs (i ∷ [])) in
      let a = get_or-append xs (i ∷ []) 0 k (omega arith) in let b = get_or_push xs i 0 (k + 1) size in let h = less_than xs i k (omega arith) below in omega arith
]

pub below_pushed : (xs : List ℕ) (i : ℕ) → ((m : ℕ) → i ≤ m → is_among xs m ≡ false) → (m : ℕ) → i + 1 ≤ m → is_among (xs ++ i ∷ []) m ≡ false
below_pushed xs i below m ge = among_more xs i m ∙ sym (or_with_false (is_among xs m) (i == m) (ne_eqb i m (λ e. omega arith))) ∙ below m (omega arith)

pub each_pushed : (xs : List ℕ) (marks : List Bool) (i : ℕ) → get_or marks i false ≡ true → ((k : ℕ) → k < i → is_among xs k ≡ get_or marks k false) → (k : ℕ) → k < i + 1 → is_among (xs ++ i ∷ []) k ≡ get_or marks k false
each_pushed xs marks i here each k lt = elim (cases_lt k i) [
  | inl old ↦ among_more xs i k ∙ sym (or_with_false (is_among xs k) (i == k) (ne_eqb i k (λ e. omega arith))) ∙ each k old
  | inr new ↦ let e : i ≡ k = omega arith in among_more xs i k ∙ or_right (is_among xs k) (i == k) (eq-eqb i k e) ∙ sym here ∙ ap (λ m. get_or marks m false) e
]

pub each_kept : (xs : List ℕ) (marks : List Bool) (i : ℕ) → get_or marks i false ≡ false → ((m : ℕ) → i ≤ m → is_among xs m ≡ false) → ((k : ℕ) → k < i → is_among xs k ≡ get_or marks k false) → (k : ℕ) → k < i + 1 → is_among xs k ≡ get_or marks k false
each_kept xs marks i here below each k lt = elim (cases_lt k i) [
  | inl old ↦ each k old
  | inr new ↦ let e : i ≡ k = omega arith in below k (omega arith) ∙ sym here ∙ ap (λ m. get_or marks m false) e
]
