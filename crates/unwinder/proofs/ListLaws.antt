-- Lists: what passes a test, and two lists place by place.
use Rattle.std.proofs.Common.{◌≡◌, ℕ, zero, suc, Bool, true, false, cond, List, [], ◌∷◌, ◌++◌, map, length, Some, refl, ap, subst, ◌∙◌, arith}
use Rattle.std.specs.Prelude.{slice_get}
use Rattle.std.specs.List.{AllZip, filter}

-- a truth value that isn't yes is no
pub not_yes : (b : Bool) → (b ≡ true → ⊥) → b ≡ false
not_yes true h = absurd (h refl)
not_yes false h = refl

module _ {X : Type 0} where
  pub filter_none : (test : X → Bool) (xs : List X) → ((l : ℕ) (x : X) → slice_get xs l ≡ Some x → test x ≡ false) → filter test xs ≡ []
  filter_none test [] h = refl
  filter_none test (x ∷ xs) h =
      let rest = filter_none test xs (λ l y e. h (suc l) y e) in
      ap (λ b. cond b (x ∷ filter test xs) (filter test xs)) (h 0 x refl) ∙ rest

  pub filter_alone : (test : X → Bool) (xs : List X) (k : ℕ) (x : X) → slice_get xs k ≡ Some x → test x ≡ true → ((l : ℕ) (y : X) → slice_get xs l ≡ Some y → test y ≡ true → l ≡ k) → filter test xs ≡ x ∷ []
  filter_alone test [] k x e t h = absurd cc
  filter_alone test (y ∷ xs) zero x e t h =
      let same : y ≡ x = cc in
      let first : test y ≡ true = ap test same ∙ t in
      let rest = filter_none test xs (λ l z g. not_yes (test z) (λ yes. let n = h (suc l) z g yes in absurd (omega (arith, n)))) in
      ap (λ b. cond b (y ∷ filter test xs) (filter test xs)) first ∙ ap (λ zs. y ∷ zs) rest ∙ ap (λ z. z ∷ []) same
  filter_alone test (y ∷ xs) (suc k) x e t h =
      let first : test y ≡ false = not_yes (test y) (λ yes. let n = h 0 y refl yes in absurd (omega (arith, n))) in
      ap (λ b. cond b (y ∷ filter test xs) (filter test xs)) first ∙ filter_alone test xs k x e t (λ l z g yes. omega (arith, h (suc l) z g yes))

  pub filter_same : (p q : X → Bool) (xs : List X) → ((l : ℕ) (x : X) → slice_get xs l ≡ Some x → p x ≡ q x) → filter p xs ≡ filter q xs
  filter_same p q [] h = refl
  filter_same p q (x ∷ xs) h =
      ap (λ b. cond b (x ∷ filter p xs) (filter p xs)) (h 0 x refl) ∙ ap (λ ys. cond (q x) (x ∷ ys) ys) (filter_same p q xs (λ l y e. h (suc l) y e))

pub filter_through : {X Y : Type 0} (test : Y → Bool) (f : X → Y) (xs : List X) → filter test (map f xs) ≡ map f (filter (λ x. test (f x)) xs)
filter_through test f [] = refl
filter_through test f (x ∷ xs) = ap (λ ys. cond (test (f x)) (f x ∷ ys) ys) (filter_through test f xs) ∙ by (test (f x))
  where
    by : (b : Bool) → cond b (f x ∷ map f (filter (λ x. test (f x)) xs)) (map f (filter (λ x. test (f x)) xs)) ≡ map f (cond b (x ∷ filter (λ x. test (f x)) xs) (filter (λ x. test (f x)) xs))
    by true = refl
    by false = refl

module _ {A B : Type 0} where
  pub zip_push : (R : A → B → Type 0) (xs : List A) (ys : List B) (x : A) (y : B) → AllZip R xs ys → R x y → AllZip R (xs ++ x ∷ []) (ys ++ y ∷ [])
  zip_push R [] [] x y h r = (r, tt)
  zip_push R [] (b ∷ ys) x y h r = absurd h
  zip_push R (a ∷ xs) [] x y h r = absurd h
  zip_push R (a ∷ xs) (b ∷ ys) x y h r = (h.0, zip_push R xs ys x y h.1 r)

  pub zip_change : (R S : A → B → Type 0) (xs : List A) (ys : List B) → ((l : ℕ) (x : A) (y : B) → slice_get xs l ≡ Some x → R x y → S x y) → AllZip R xs ys → AllZip S xs ys
  zip_change R S [] [] f h = tt
  zip_change R S [] (b ∷ ys) f h = absurd h
  zip_change R S (a ∷ xs) [] f h = absurd h
  zip_change R S (a ∷ xs) (b ∷ ys) f h = (f 0 a b refl h.0, zip_change R S xs ys (λ l x y e. f (suc l) x y e) h.1)

  -- the elements at one place
  pub zip_at : (R : A → B → Type 0) (xs : List A) (ys : List B) → AllZip R xs ys → (l : ℕ) (x : A) (y : B) → slice_get xs l ≡ Some x → slice_get ys l ≡ Some y → R x y
  zip_at R [] ys h l x y e g = absurd cc
  zip_at R (a ∷ xs) [] h l x y e g = absurd h
  zip_at R (a ∷ xs) (b ∷ ys) h zero x y e g = let f : a ≡ x = cc in let k : b ≡ y = cc in subst (λ z. R x z) k (subst (λ z. R z b) f h.0)
  zip_at R (a ∷ xs) (b ∷ ys) h (suc l) x y e g = zip_at R xs ys h.1 l x y e g

-- what passes a test is an element
among : {X : Type 0} (test : X → Bool) (y : X) (xs : List X) (x : X) → ((l : ℕ) → slice_get (filter test xs) l ≡ Some x → (i : ℕ) × (slice_get xs i ≡ Some x)) → (b : Bool) (l : ℕ) → slice_get (cond b (y ∷ filter test xs) (filter test xs)) l ≡ Some x → (i : ℕ) × (slice_get (y ∷ xs) i ≡ Some x)
among test y xs x f true zero g = (0, g)
among test y xs x f true (suc l) g = let r = f l g in (suc r.0, r.1)
among test y xs x f false l g = let r = f l g in (suc r.0, r.1)

pub filter_from : {X : Type 0} (test : X → Bool) (xs : List X) (l : ℕ) (x : X) → slice_get (filter test xs) l ≡ Some x → (i : ℕ) × (slice_get xs i ≡ Some x)
filter_from test [] l x e = absurd cc
filter_from test (y ∷ xs) l x e = among test y xs x (λ m g. filter_from test xs m x g) (test y) l e

-- the partner of an element at its place
pub zip_left : {A B : Type 0} (R : A → B → Type 0) (xs : List A) (ys : List B) → AllZip R xs ys → (l : ℕ) (y : B) → slice_get ys l ≡ Some y → (x : A) × (slice_get xs l ≡ Some x) × R x y
zip_left R [] [] h l y e = absurd cc
zip_left R [] (b ∷ ys) h l y e = absurd h
zip_left R (a ∷ xs) [] h l y e = absurd h
zip_left R (a ∷ xs) (b ∷ ys) h zero y e = let same : b ≡ y = cc in (a, refl, subst (λ q. R a q) same h.0)
zip_left R (a ∷ xs) (b ∷ ys) h (suc l) y e = zip_left R xs ys h.1 l y e

pub zip_long : {A B : Type 0} (R : A → B → Type 0) (xs : List A) (ys : List B) → AllZip R xs ys → length ys ≡ length xs
zip_long R [] [] h = refl
zip_long R [] (b ∷ ys) h = absurd h
zip_long R (a ∷ xs) [] h = absurd h
zip_long R (a ∷ xs) (b ∷ ys) h = omega (arith, zip_long R xs ys h.1)
