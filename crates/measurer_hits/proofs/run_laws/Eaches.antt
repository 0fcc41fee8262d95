-- What holds of each element of a list, with its place.
use Rattle.std.proofs.Common.{ℕ, ◌≤◌, zero, suc, List, [], ◌∷◌, refl, subst, ◌⊎◌, ⊎_elim, inl, inr, arith}
use Rattle.std.proofs.lemmas.Bool.{cases_lt}
use Rattle.std.proofs.lemmas.Option.{same_Some}
use Rattle.cfa.specs.Each.{Each}

module _ {X : Type 0} (P : X → Type 0) where
  pub each_none : Each [] (λ n x. P x)
  each_none n x there = absurd cc

  pub each_cons : (x : X) (xs : List X) → P x → Each xs (λ n y. P y) → Each (x ∷ xs) (λ n y. P y)
  each_cons x xs here rest zero y there = subst P (same_Some x y there) here
  each_cons x xs here rest (suc n) y there = rest n y there

  -- a fact that holds or not of each element holds of all or not
  pub each_or_not : ((x : X) → P x ⊎ (¬ P x)) → (xs : List X) → Each xs (λ n x. P x) ⊎ (¬ Each xs (λ n x. P x))
  each_or_not decide [] = inl each_none
  each_or_not decide (x ∷ xs) =
      ⊎_elim
      (λ here. ⊎_elim (λ rest. inl (each_cons x xs here rest)) (λ no. inr (λ all. no (λ n y there. all (suc n) y there))) (each_or_not decide xs))
      (λ no. inr (λ all. no (all 0 x refl)))
      (decide x)

pub le_or_not : (n m : ℕ) → (n ≤ m) ⊎ (¬ (n ≤ m))
le_or_not n m = ⊎_elim (λ lt. inr (λ le. absurd (omega arith))) (λ le. inl le) (cases_lt m n)
