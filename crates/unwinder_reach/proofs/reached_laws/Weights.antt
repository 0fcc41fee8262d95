-- Elements with numbers beside them.
use Rattle.std.proofs.Common.{◌≡◌, ℕ, zero, suc, ◌<◌, List, [], ◌∷◌, length, Some, refl, sym, ap, subst, ◌∙◌, inl, inr, ⊎_elim, arith}
use Rattle.std.specs.Prelude.{slice_get, sum_by}
use Rattle.std.proofs.lemmas.List.Sums.{sum_by-cons}
use Rattle.std.proofs.lemmas.Option.{slice_get_within}
use Rattle.cfa.proofs.Eaches.{element_at}
use Rattle.unwinder_reach.specs.reached.Searching.{IsIn}
use Rattle.unwinder_reach.proofs.reached_laws.Members.{once_each, same_sum}

-- no element is at two places
abbrev pub AreApart : {X : Type 0} → List X → Type 0
AreApart {X} xs = (i j : ℕ) (x : X) → slice_get xs i ≡ Some x → slice_get xs j ≡ Some x → i ≡ j

module _ {X : Type 0} where
  abbrev pub beside : List X → List ℕ → List (X × ℕ)
  beside [] ns = []
  beside (x ∷ xs) [] = []
  beside (x ∷ xs) (n ∷ ns) = (x, n) ∷ beside xs ns

  pub beside_places : (xs : List X) (ns : List ℕ) (q : X × ℕ) → IsIn (beside xs ns) q → (i : ℕ) × (slice_get xs i ≡ Some q.0) × (slice_get ns i ≡ Some q.1)
  beside_places [] ns q h = absurd h
  beside_places (x ∷ xs) [] q h = absurd h
  beside_places (x ∷ xs) (n ∷ ns) q h =
      ⊎_elim (λ e. (0, ap (λ v. Some v.0) e, ap (λ v. Some v.1) e)) (λ r. let p = beside_places xs ns q r in (suc p.0, p.1, p.2)) h

  pub beside_at : (xs : List X) (ns : List ℕ) (i : ℕ) (x : X) (n : ℕ) → slice_get xs i ≡ Some x → slice_get ns i ≡ Some n → IsIn (beside xs ns) (x, n)
  beside_at [] ns i x n e d = absurd (cc)
  beside_at (y ∷ xs) [] i x n e d = absurd (cc)
  beside_at (y ∷ xs) (m ∷ ns) zero x n e d =
      let first : y ≡ x = cc in
      let second : m ≡ n = cc in
      inl (ap (λ v. (v, m)) first ∙ ap (λ k. (x, k)) second)
  beside_at (y ∷ xs) (m ∷ ns) (suc i) x n e d = inr (beside_at xs ns i x n e d)

  pub beside_sum : (xs : List X) (ns : List ℕ) → length ns ≡ length xs → sum_by (λ (q : X × ℕ). q.1) (beside xs ns) ≡ sum_by (λ n. n) ns
  beside_sum [] [] e = refl
  beside_sum [] (n ∷ ns) e = absurd (omega (arith, e))
  beside_sum (x ∷ xs) [] e = absurd (omega (arith, e))
  beside_sum (x ∷ xs) (n ∷ ns) e =
      let rest = beside_sum xs ns (omega (arith, e)) in
      let a = sum_by-cons (λ (q : X × ℕ). q.1) (x, n) (beside xs ns) in
      let b = sum_by-cons (λ (k : ℕ). k) n ns in
      omega (arith, rest, a, b)

  beside_apart : (xs : List X) (ns : List ℕ) → AreApart xs → AreApart (beside xs ns)
  beside_apart xs ns apart i j q e d = apart i j q.0 (left xs ns i q e) (left xs ns j q d) where
    left : (xs : List X) (ns : List ℕ) (i : ℕ) (q : X × ℕ) → slice_get (beside xs ns) i ≡ Some q → slice_get xs i ≡ Some q.0
    left [] ns i q e = absurd (cc)
    left (x ∷ xs) [] i q e = absurd (cc)
    left (x ∷ xs) (n ∷ ns) zero q e = let same : (x, n) ≡ q = cc in ap (λ v. Some v.0) same
    left (x ∷ xs) (n ∷ ns) (suc i) q e = left xs ns i q e

  -- each element of one list is in another
  abbrev pub EachIsIn : List X → List X → Type 0
  EachIsIn xs ys = (i : ℕ) (x : X) → slice_get xs i ≡ Some x → (j : ℕ) × (slice_get ys j ≡ Some x)

  -- equal elements have equal numbers
  abbrev pub Agree : List X → List X → List ℕ → List ℕ → Type 0
  Agree xs ys ms ns =
      (i j : ℕ) (x : X) (m n : ℕ) → slice_get xs i ≡ Some x → slice_get ys j ≡ Some x → slice_get ms i ≡ Some m → slice_get ns j ≡ Some n → m ≡ n

  forth : (xs ys : List X) (ms ns : List ℕ) → length ns ≡ length ys → EachIsIn xs ys → Agree xs ys ms ns → (q : X × ℕ) → IsIn (beside xs ms) q → IsIn (beside ys ns) q
  forth xs ys ms ns long has agree q h =
      let p = beside_places xs ms q h in
      let other = has p.0 q.0 p.1 in
      let within = slice_get_within ys other.0 q.0 other.1 in
      let inside : other.0 < length ns = omega (arith, long, within) in
      let number = element_at ns other.0 inside in
      let same = agree p.0 other.0 q.0 q.1 number.0 p.1 other.1 p.2 number.1 in
      subst (λ n. IsIn (beside ys ns) (q.0, n)) (sym same) (beside_at ys ns other.0 q.0 number.0 other.1 number.1)

  -- lists of the same elements, each with a number that the element tells, have the same sum
  pub one_sum : (xs ys : List X) (ms ns : List ℕ) → length ms ≡ length xs → length ns ≡ length ys → AreApart xs → AreApart ys → EachIsIn xs ys → EachIsIn ys xs → Agree xs ys ms ns → sum_by (λ n. n) ms ≡ sum_by (λ n. n) ns
  one_sum xs ys ms ns long other apart far to from agree =
      sym (beside_sum xs ms long)
      ∙ same_sum (λ (q : X × ℕ). q.1) (beside xs ms) (beside ys ns)
      (once_each (beside xs ms) (beside_apart xs ms apart))
      (once_each (beside ys ns) (beside_apart ys ns far))
      (forth xs ys ms ns other to agree)
      (forth ys xs ns ms long from (λ i j x m n a b c d. sym (agree j i x n m b a d c)))
      ∙ beside_sum ys ns other
