-- Loops that test each element of a list. The loop goes over `ys`, which is the list `xs`.
use Rattle.std.proofs.Common.{◌≡◌, ℕ, zero, suc, ◌+◌, ◌<◌, ◌≤◌, List, [], ◌∷◌, Some, refl, length, get_or, sym, ap, ◌∙◌, subst, ⊎_elim, arith}
use Rattle.std.specs.Prelude.{slice_get}
use Rattle.std.proofs.lemmas.Bool.{cases_eq}
use Rattle.std.proofs.lemmas.Option.{slice_get_read, slice_get_within, same_Some}
use Rattle.cfa.specs.Each.{Each}

-- the element at a place within
pub element_at : {X : Type 0} (xs : List X) (i : ℕ) → i < length xs → (x : X) × (slice_get xs i ≡ Some x)
element_at [] i h = absurd (omega (arith, h))
element_at (x ∷ xs) zero h = (x, refl)
element_at (x ∷ xs) (suc i) h = element_at xs i (omega (arith, h))

-- P of each element below a place
abbrev pub EachBelow : {X : Type 0} → List X → ℕ → (ℕ → X → Type 0) → Type 0
EachBelow {X} xs n P = (i : ℕ) (x : X) → i < n → slice_get xs i ≡ Some x → P i x

-- what a loop reads at a place stands there
pub read_at : {X : Type 0} (xs ys : List X) → ys ≡ xs → (i : ℕ) (x : X) → i < length ys → x ≡ get_or ys i x → slice_get xs i ≡ Some x
read_at {X} xs ys same i x within read =
    let P : List X → Type 0 = λ zs. slice_get zs i ≡ Some x in
    subst P same (slice_get_read ys (length ys) i x (omega arith) within read)

module _ {X : Type 0} (xs ys : List X) (same : ys ≡ xs) (P : ℕ → X → Type 0) where
  pub each_none : EachBelow xs 0 P
  each_none i x h e = absurd (omega (arith, h))

  at_place : (i : ℕ) (x y : X) → i < length ys → x ≡ get_or ys i x → slice_get xs i ≡ Some y → x ≡ y
  at_place i x y within read e = same_Some x y (sym (read_at xs ys same i x within read) ∙ e)

  pub each_more : (i : ℕ) (x : X) → i < length ys → x ≡ get_or ys i x → P i x → EachBelow xs i P → EachBelow xs (i + 1) P
  each_more i x within read here below k y h e =
      ⊎_elim
      (λ equal. let is : i ≡ k = sym equal in let there : slice_get xs i ≡ Some y = ap (slice_get xs) is ∙ e in
      let value : x ≡ y = at_place i x y within read there in subst (λ n. P n y) is (subst (P i) value here))
      (λ apart. let other : k ≡ i → ⊥ = apart in below k y (omega arith) e)
      (cases_eq k i)

  pub each_all : (n : ℕ) → length ys ≤ n → EachBelow xs n P → Each xs P
  each_all n end below k y e =
      let within = slice_get_within xs k y e in
      let long : length ys ≡ length xs = ap length same in
      below k y (omega arith) e

  pub each_fails : (i : ℕ) (x : X) → i < length ys → x ≡ get_or ys i x → ¬ P i x → ¬ Each xs P
  each_fails i x within read ill each = ill (each i x (read_at xs ys same i x within read))

  pub each_ill : (i : ℕ) (x : X) → i < length ys → x ≡ get_or ys i x → ¬ P i x → (y : X) → slice_get xs i ≡ Some y → ¬ P i y
  each_ill i x within read ill y e h = ill (subst (P i) (sym (at_place i x y within read e)) h)
