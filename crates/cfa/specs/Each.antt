-- The elements of lists with their places.
use Rattle.std.specs.Prelude.{◌≡◌, ℕ, Bool, true, false, ◌&&◌, List, [], ◌∷◌, Some, slice_get}

-- P of each element and its place, from 0
abbrev pub Each : {X : Type 0} → List X → (ℕ → X → Type 0) → Type 0
Each {X} xs P = (i : ℕ) (x : X) → slice_get xs i ≡ Some x → P i x

-- one list is as long as the other, and each two elements at one place pass the test
abbrev pub matched : {X Y : Type 0} → (X → Y → Bool) → List X → List Y → Bool
matched test [] [] = true
matched test (x ∷ xs) (y ∷ ys) = test x y && matched test xs ys
matched test [] (y ∷ ys) = false
matched test (x ∷ xs) [] = false
