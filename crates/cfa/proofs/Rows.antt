-- A table that gains one number at a time.
use Rattle.std.proofs.Common.{◌≡◌, ℕ, zero, suc, ◌+◌, ◌<◌, true, false, List, [], ◌∷◌, ◌++◌, Some, take, length, get_or, refl, sym, ap, ◌∙◌, inl, inr, ⊎_elim, arith, append-nil}
use Rattle.std.specs.Prelude.{◌⊎◌, ◌==◌, slice_get, slice_set, cond}
use Rattle.std.proofs.lemmas.Bool.{eq-eqb}
use Rattle.std.proofs.lemmas.Bool.Decides.{nat_tests}
use Rattle.std.proofs.lemmas.Option.{slice_get_read, same_Some}
use Rattle.cfa.specs.Each.{Each}
use Rattle.cfa.specs.Table.{places_from}
use Rattle.cfa.proofs.Places.{places_more}

-- what is read after a write: what was written, or what was there
after_write : {Y : Type 0} (ys : List Y) (s k : ℕ) (v y : Y) → slice_get (slice_set ys s v) k ≡ Some y → ((k ≡ s) × (v ≡ y)) ⊎ ((k ≡ s → ⊥) × (slice_get ys k ≡ Some y))
after_write [] s k v y e = absurd (cc)
after_write (x ∷ ys) zero zero v y e = inl (refl, same_Some v y e)
after_write (x ∷ ys) zero (suc k) v y e = inr (λ h. absurd (omega (arith, h)), e)
after_write (x ∷ ys) (suc s) zero v y e = inr (λ h. absurd (omega (arith, h)), e)
after_write (x ∷ ys) (suc s) (suc k) v y e =
    ⊎_elim (λ h. inl (ap suc h.0, h.1)) (λ h. inr (λ q. h.0 (omega (arith, q)), h.1)) (after_write ys s k v y e)

eqb_no : (a b : ℕ) → (a ≡ b → ⊥) → (a == b) ≡ false
eqb_no a b h = grind (arith, nat_tests)

module _ {X : Type 0} (key : X → ℕ) where
  -- each row has the places so far of the elements with its key
  abbrev pub RowsAt : List X → ℕ → List (List ℕ) → Type 0
  RowsAt xs i rows = Each rows (λ k row. row ≡ places_from (λ x. key x == k) 0 (take i xs))

  pub rows_more : (xs zs : List X) (same : zs ≡ xs) (i : ℕ) (x : X) (rows : List (List ℕ)) (old new : List ℕ) → i < length zs → x ≡ get_or zs i x → key x < length rows → old ≡ get_or rows (key x) old → new ≡ old ++ (i ∷ []) → RowsAt xs i rows → RowsAt xs (i + 1) (slice_set rows (key x) new)
  rows_more xs zs same i x rows old new within read place was is each k row e =
      let here : i < length xs = omega (arith, ap length same) in
      let value : get_or xs i x ≡ x = sym (read ∙ ap (λ l. get_or l i x) same) in
      let step = places_more (λ y. key y == k) xs i x here in
      ⊎_elim
      (λ h.
      let k_is : k ≡ key x = h.0 in
      let before : old ≡ places_from (λ y. key y == k) 0 (take i xs) =
      each k old (ap (slice_get rows) k_is ∙ slice_get_read rows (length rows) (key x) old (omega arith) place was) in
      let yes_test : (key (get_or xs i x) == k) ≡ true = eq-eqb (key (get_or xs i x)) k (ap key value ∙ sym k_is) in
      sym h.1 ∙ is ∙ ap (λ l. l ++ (i ∷ [])) before ∙ ap (λ t. places_from (λ y. key y == k) 0 (take i xs) ++ cond t (i ∷ []) []) (sym yes_test) ∙ sym step)
      (λ h.
      let no_test : (key (get_or xs i x) == k) ≡ false = eqb_no (key (get_or xs i x)) k (λ q. h.0 (sym q ∙ ap key value)) in
      each k row h.1 ∙ sym (append-nil (places_from (λ y. key y == k) 0 (take i xs)))
      ∙ ap (λ t. places_from (λ y. key y == k) 0 (take i xs) ++ cond t (i ∷ []) []) (sym no_test) ∙ sym step)
      (after_write rows (key x) k new row e)
