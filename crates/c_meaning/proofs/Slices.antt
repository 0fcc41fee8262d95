-- Elements of lists that are cut off or grow.
use Rattle.std.proofs.Common.{◌≡◌, ℕ, zero, suc, ◌<◌, ◌≤◌, ◌⊎◌, inl, inr, List, [], ◌∷◌, ◌++◌, Some, take, length, refl, sym, ap, arith}
use Rattle.std.specs.Prelude.{slice_get}
use Rattle.std.proofs.lemmas.Option.{same_Some}

pub slice_get_front : {X : Type 0} (xs ys : List X) (k : ℕ) → k < length xs → slice_get (xs ++ ys) k ≡ slice_get xs k
slice_get_front [] ys k h = absurd (omega arith)
slice_get_front (x ∷ xs) ys zero h = refl
slice_get_front (x ∷ xs) ys (suc k) h = slice_get_front xs ys k (omega arith)

pub slice_get_last : {X : Type 0} (xs : List X) (y : X) → slice_get (xs ++ y ∷ []) (length xs) ≡ Some y
slice_get_last [] y = refl
slice_get_last (x ∷ xs) y = slice_get_last xs y

-- an element of a list that grew by one
pub slice_get_push : {X : Type 0} (xs : List X) (y : X) (k : ℕ) (x : X) → slice_get (xs ++ y ∷ []) k ≡ Some x → ((k < length xs) × (slice_get xs k ≡ Some x)) ⊎ ((k ≡ length xs) × (x ≡ y))
slice_get_push [] y zero x e = inr (refl, sym (same_Some y x e))
slice_get_push [] y (suc k) x e = absurd cc
slice_get_push (z ∷ xs) y zero x e = inl (omega arith, e)
slice_get_push (z ∷ xs) y (suc k) x e = elim (slice_get_push xs y k x e) [ inl h ↦ inl (omega (arith, h.0), h.1) | inr h ↦ inr (omega (arith, h.0), h.1) ]

pub slice_get_kept : {X : Type 0} (n : ℕ) (xs : List X) (k : ℕ) → k < n → slice_get (take n xs) k ≡ slice_get xs k
slice_get_kept zero xs k h = absurd (omega arith)
slice_get_kept (suc n) [] k h = refl
slice_get_kept (suc n) (x ∷ xs) zero h = refl
slice_get_kept (suc n) (x ∷ xs) (suc k) h = slice_get_kept n xs k (omega arith)

-- an element of a list that was cut off
pub slice_get_taken : {X : Type 0} (n : ℕ) (xs : List X) (k : ℕ) (x : X) → slice_get (take n xs) k ≡ Some x → (k < n) × (slice_get xs k ≡ Some x)
slice_get_taken zero xs k x e = absurd cc
slice_get_taken (suc n) [] k x e = absurd cc
slice_get_taken (suc n) (y ∷ xs) zero x e = (omega arith, e)
slice_get_taken (suc n) (y ∷ xs) (suc k) x e = let h = slice_get_taken n xs k x e in (omega (arith, h.0), h.1)

pub take_take : {X : Type 0} (k n : ℕ) (xs : List X) → k ≤ n → take k (take n xs) ≡ take k xs
take_take zero n xs h = refl
take_take (suc k) zero xs h = absurd (omega arith)
take_take (suc k) (suc n) [] h = refl
take_take (suc k) (suc n) (x ∷ xs) h = ap (λ r. x ∷ r) (take_take k n xs (omega arith))
