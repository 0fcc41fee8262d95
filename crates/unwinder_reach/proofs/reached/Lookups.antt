-- What is read from a list.
use Rattle.std.proofs.Common.{◌≡◌, ℕ, zero, suc, ◌≤◌, List, [], ◌∷◌, length, None, refl, sym, ap, ◌∙◌, arith}
use Rattle.std.specs.Prelude.{slice_get}

pub past_none : {X : Type 0} (xs ys : List X) → ys ≡ xs → (i : ℕ) → length ys ≤ i → slice_get xs i ≡ None
past_none {X} xs ys same i h = ap (λ (zs : List X). slice_get zs i) (sym same) ∙ beyond ys i h
  where
    beyond : (zs : List X) (k : ℕ) → length zs ≤ k → slice_get zs k ≡ None
    beyond [] k h = refl
    beyond (z ∷ zs) zero h = absurd (omega (arith, h))
    beyond (z ∷ zs) (suc k) h = beyond zs k (omega (arith, h))
