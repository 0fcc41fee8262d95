-- One more place in the chains.
use Rattle.std.proofs.Common.{◌≡◌, ◌≢◌, ℕ, zero, suc, ◌-◌, ◌≤◌, ◌<◌, ◌==◌, ◌⊎◌, inl, inr, Bool, true, false, List, length, get_or, set, replicate, refl, sym, ◌∙◌, ap, subst, arith, eqb-true, eq-eqb, get_or-set_other}
use Rattle.std.specs.Prelude.{slice_index}
use Rattle.std.proofs.lemmas.Bool.{cases_lt, false≢true}
use Rattle.std.proofs.lemmas.Grind.{get_or-set_at}
use Rattle.std.proofs.lemmas.List.{get_or_default}
use Rattle.measurer_index.specs.occurrences.Places.{IsNext, AreFirstsFrom, AreNextFrom}

get_or-same : (n i a : ℕ) → get_or (replicate n a) i a ≡ a
get_or-same zero i a = refl
get_or-same (suc n) zero a = refl
get_or-same (suc n) (suc i) a = get_or-same n i a

same_or_not : (x y : ℕ) → (x ≡ y) ⊎ (x ≢ y)
same_or_not x y = by_test (x == y) refl
  where
    by_test : (b : Bool) → x == y ≡ b → (x ≡ y) ⊎ (x ≢ y)
    by_test true e = inl (eqb-true x y e)
    by_test false e = inr (λ f. false≢true (sym e ∙ eq-eqb x y f))

-- no number stands from the end on
end_next : (numbers : List ℕ) (x start : ℕ) → length numbers ≤ start → IsNext numbers x start (length numbers)
end_next numbers x start le = record {
  within = omega arith;
  is = λ lt. absurd (omega arith);
  none_before = λ (k, (from, (lt, is))). absurd (omega arith);
}

module _ (numbers : List ℕ) where
  pub no_firsts : (table : List ℕ) (n size : ℕ) → n ≡ length numbers → table ≡ replicate size (length numbers) → AreFirstsFrom numbers n table
  no_firsts table n size is filled x =
      let here : get_or table x (length numbers) ≡ length numbers = ap (λ xs. get_or xs x (length numbers)) filled ∙ get_or-same size x (length numbers) in
      (omega arith, subst (λ p. IsNext numbers x n p) (sym here) (end_next numbers x n (omega arith)))

  -- a step back past a place with another number
  back : (x n place : ℕ) → 0 < n → slice_index numbers (n - 1) ≢ x → IsNext numbers x n place → IsNext numbers x (n - 1) place
  back x n place above ne h = record {
    within = h.within;
    is = h.is;
    none_before = λ (k, (from, (lt, is))). elim (cases_lt (n - 1) k) [
      | inl later ↦ h.none_before (k, (omega arith, (lt, is)))
      | inr here ↦ let e : k ≡ n - 1 = omega arith in ne (ap (slice_index numbers) (sym e) ∙ is)
    ];
  }

  here_next : (p : ℕ) → p < length numbers → IsNext numbers (slice_index numbers p) p p
  here_next p lt = record {
    within = omega arith;
    is = λ l. refl;
    none_before = λ (k, (from, (below, is))). absurd (omega arith);
  }

  pub one_first : (table : List ℕ) (n : ℕ) → 0 < n → n ≤ length numbers → slice_index numbers (n - 1) < length table → AreFirstsFrom numbers n table → AreFirstsFrom numbers (n - 1) (set table (slice_index numbers (n - 1)) (n - 1))
  one_first table n above within room h x = elim (same_or_not x (slice_index numbers (n - 1))) [
    | inl same ↦
        let written = get_or-set_at table (slice_index numbers (n - 1)) x (n - 1) (length numbers) same room in (
          omega arith,
          subst (λ y. IsNext numbers y (n - 1) (get_or (set table (slice_index numbers (n - 1)) (n - 1)) x (length numbers))) (sym same)
              (subst (λ p. IsNext numbers (slice_index numbers (n - 1)) (n - 1) p) (sym written) (here_next (n - 1) (omega arith))),
        )
    | inr ne ↦
        let kept : get_or (set table (slice_index numbers (n - 1)) (n - 1)) x (length numbers) ≡ get_or table x (length numbers) = get_or-set_other table (slice_index numbers (n - 1)) x (n - 1) (length numbers) ne in
        let old = (h x).0 in
        (omega arith, subst (λ p. IsNext numbers x (n - 1) p) (sym kept) (back x n (get_or table x (length numbers)) above (λ e. ne (sym e)) (h x).1))
  ]

  pub no_next : (table : List ℕ) (n : ℕ) → n ≡ length numbers → AreNextFrom numbers n table
  no_next table n is k from lt = absurd (omega arith)

  -- the first place of a number from a place on, read from the table
  pub first_read : (table : List ℕ) (n x found : ℕ) → x < length table → found ≡ get_or table x 0 → AreFirstsFrom numbers n table → (n ≤ found) × IsNext numbers x n found
  first_read table n x found room is h =
      let e : get_or table x (length numbers) ≡ found = get_or_default table x (length numbers) 0 room ∙ sym is in
      subst (λ p. (n ≤ p) × IsNext numbers x n p) e (h x)

  pub one_next : (table : List ℕ) (n found : ℕ) → 0 < n → n ≤ length numbers → length table ≡ length numbers → n ≤ found → IsNext numbers (slice_index numbers (n - 1)) n found → AreNextFrom numbers n table → AreNextFrom numbers (n - 1) (set table (n - 1) found)
  one_next table n found above within size le next h k from lt = elim (same_or_not k (n - 1)) [
    | inl same ↦
        let written = get_or-set_at table (n - 1) k found 0 same (omega arith) in
        let number : slice_index numbers (n - 1) ≡ slice_index numbers k = ap (slice_index numbers) (sym same) in
        let start : n ≡ suc k = omega arith in
        (omega arith, subst (λ p. IsNext numbers (slice_index numbers k) (suc k) p) (sym written) (subst (λ y. IsNext numbers y (suc k) found) number (subst (λ s. IsNext numbers (slice_index numbers (n - 1)) s found) start next)))
    | inr ne ↦
        let kept : get_or (set table (n - 1) found) k 0 ≡ get_or table k 0 = get_or-set_other table (n - 1) k found 0 ne in
        let old = h k (omega arith) lt in
        let later = old.0 in
        (omega arith, subst (λ p. IsNext numbers (slice_index numbers k) (suc k) p) (sym kept) old.1)
  ]
