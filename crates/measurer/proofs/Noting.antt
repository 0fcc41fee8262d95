-- Notes of first runs in a table.
use Rattle.std.proofs.Common.{◌≡◌, ◌≢◌, ℕ, zero, suc, ◌<◌, ◌==◌, ◌||◌, Bool, true, false, List, [], ◌∷◌, ◌++◌, Option, Some, None, length, get_or, set, refl, sym, ◌∙◌, ap, subst, arith, eqb-true, eq-eqb, get_or-set_other, get_or-set_same}
use Rattle.std.proofs.lemmas.Bool.{false≢true}
use Rattle.measurer.specs.Firsts.{has_number, or_none}
use Rattle.measurer.specs.Noted.{noted}

or_assoc : (a b c : Bool) → (a || (b || c)) ≡ ((a || b) || c)
or_assoc true b c = refl
or_assoc false b c = refl

or_false : (a : Bool) → (a || false) ≡ a
or_false true = refl
or_false false = refl

or_true : (a : Bool) → (a || true) ≡ true
or_true true = refl
or_true false = refl

has_push : (k : ℕ) (xs : List ℕ) (y : ℕ) → has_number k (xs ++ y ∷ []) ≡ (has_number k xs || (y == k))
has_push k [] y = or_false (y == k)
has_push k (x ∷ xs) y = ap (λ b. (x == k) || b) (has_push k xs y) ∙ or_assoc (x == k) (has_number k xs) (y == k)

some_number : (n : ℕ) → 0 < n → or_none n ≡ Some n
some_number zero h = absurd (omega arith)
some_number (suc n) h = refl

-- what was noted once stays, whoever comes
stays : (b : Bool) (number n : ℕ) (o : Option ℕ) → Some n ≡ noted b number o → Some n ≡ noted true number o
stays b number n (Some m) e = e
stays true number n None e = e
stays false number n None e = absurd (cc)

was_none : (b : Bool) (number : ℕ) (o : Option ℕ) → None ≡ noted b number o → Some number ≡ noted true number o
was_none b number (Some m) e = absurd (cc)
was_none true number None e = refl
was_none false number None e = refl

-- a table has the notes of an older one, and this number at these places where there was none
abbrev pub HasNotes : List ℕ → ℕ → List ℕ → List ℕ → Type 0
HasNotes old number places table = (k : ℕ) → or_none (get_or table k 0) ≡ noted (has_number k places) number (or_none (get_or old k 0))

module _ (old : List ℕ) (number : ℕ) (above : 0 < number) where
  other : (places : List ℕ) (p k : ℕ) (o : Option ℕ) → p == k ≡ false → noted (has_number k places) number o ≡ noted (has_number k (places ++ p ∷ [])) number o
  other places p k o e = ap (λ b. noted b number o) (sym (has_push k places p ∙ ap (λ b. has_number k places || b) e ∙ or_false (has_number k places)))

  here : (places : List ℕ) (p k : ℕ) (o : Option ℕ) → p == k ≡ true → noted true number o ≡ noted (has_number k (places ++ p ∷ [])) number o
  here places p k o e = ap (λ b. noted b number o) (sym (has_push k places p ∙ ap (λ b. has_number k places || b) e ∙ or_true (has_number k places)))

  -- there is none yet
  pub written : (places table : List ℕ) (p : ℕ) → HasNotes old number places table → get_or table p 0 ≡ 0 → p < length table → HasNotes old number (places ++ p ∷ []) (set table p number)
  written places table p h none lt k = by_test (p == k) refl
    where
      by_test : (b : Bool) → p == k ≡ b → or_none (get_or (set table p number) k 0) ≡ noted (has_number k (places ++ p ∷ [])) number (or_none (get_or old k 0))
      by_test true e =
          let same : p ≡ k = eqb-true p k e in
          let new : get_or (set table p number) k 0 ≡ number = subst (λ i. get_or (set table p number) i 0 ≡ number) same (get_or-set_same table p number 0 lt) in
          let empty : None ≡ noted (has_number k places) number (or_none (get_or old k 0)) = subst (λ i. None ≡ noted (has_number i places) number (or_none (get_or old i 0))) same (ap or_none (sym none) ∙ h p) in
          ap or_none new ∙ some_number number above ∙ was_none (has_number k places) number (or_none (get_or old k 0)) empty ∙ here places p k (or_none (get_or old k 0)) e
      by_test false e =
          let ne : k ≢ p = λ f. false≢true (sym e ∙ eq-eqb p k (sym f)) in
          let kept : get_or (set table p number) k 0 ≡ get_or table k 0 = rw get_or-set_other refl in
          ap or_none kept ∙ h k ∙ other places p k (or_none (get_or old k 0)) e

  -- there is one already
  pub left : (places table : List ℕ) (p : ℕ) → HasNotes old number places table → get_or table p 0 ≢ 0 → HasNotes old number (places ++ p ∷ []) table
  left places table p h some k = by_test (p == k) refl
    where
      by_test : (b : Bool) → p == k ≡ b → or_none (get_or table k 0) ≡ noted (has_number k (places ++ p ∷ [])) number (or_none (get_or old k 0))
      by_test true e =
          let same : p ≡ k = eqb-true p k e in
          let positive : 0 < get_or table k 0 = let f : get_or table k 0 ≢ 0 = subst (λ i. get_or table i 0 ≢ 0) same some in omega arith in
          let full : or_none (get_or table k 0) ≡ Some (get_or table k 0) = some_number (get_or table k 0) positive in
          full ∙ stays (has_number k places) number (get_or table k 0) (or_none (get_or old k 0)) (sym full ∙ h k) ∙ here places p k (or_none (get_or old k 0)) e
      by_test false e = h k ∙ other places p k (or_none (get_or old k 0)) e
