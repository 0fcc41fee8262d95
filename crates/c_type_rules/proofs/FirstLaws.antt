-- The first fault of a list is before no other.
use Rattle.std.proofs.Common.{◌≡◌, Bool, true, false, List, [], ◌∷◌, Some, None, refl, sym, subst, arith, inl, inr}
use Rattle.std.specs.Prelude.{if◌then◌else◌}
use Rattle.std.proofs.lemmas.Bool.Decides.{nat_tests}
use Rattle.c_type_rules.specs.declared.faults.Found.{Found}
use Rattle.c_type_rules.specs.Faults.{is_before, first_with, Among, IsFirst}

not_before : (a b c : Found) → is_before a b ≡ false → is_before b c ≡ false → is_before a c ≡ false
not_before a b c p q = grind (arith, nat_tests)

not_self : (a : Found) → is_before a a ≡ false
not_self a = grind (arith, nat_tests)

not_both : (a b : Found) → is_before a b ≡ true → is_before b a ≡ false
not_both a b p = grind (arith, nat_tests)

abbrev Bounded : Found → List Found → Type 0
Bounded f fs = (g : Found) → Among g fs → is_before g f ≡ false

-- one more fault, in front of those of which the first is known
from_later : (x : Found) (xs : List Found) (a f : Found) → is_before x a ≡ true → Among f (x ∷ xs) × Bounded f (x ∷ xs) → Among f (a ∷ x ∷ xs) × Bounded f (a ∷ x ∷ xs)
from_later x xs a f p h = (
  inr h.0,
  λ g. elim [
    | inl e ↦ subst (λ z. is_before z f ≡ false) (sym e) (not_before a x f (not_both x a p) (h.1 x (inl refl)))
    | inr r ↦ h.1 g r
  ],
)

from_earlier : (x : Found) (xs : List Found) (a f : Found) → is_before x a ≡ false → Among f (a ∷ xs) × Bounded f (a ∷ xs) → Among f (a ∷ x ∷ xs) × Bounded f (a ∷ x ∷ xs)
from_earlier x xs a f p h = (
  elim h.0 [ inl e ↦ inl e | inr r ↦ inr (inr r) ],
  λ g. elim [
    | inl e ↦ h.1 g (inl e)
    | inr (inl e) ↦ subst (λ z. is_before z f ≡ false) (sym e) (not_before x a f p (h.1 a (inl refl)))
    | inr (inr r) ↦ h.1 g (inr r)
  ],
)

module _ (xs : List Found) (ih : (a f : Found) → first_with (Some a) xs ≡ Some f → Among f (a ∷ xs) × Bounded f (a ∷ xs)) (x a f : Found) where
  by_test : (b : Bool) → is_before x a ≡ b → first_with (if b then Some x else Some a) xs ≡ Some f → Among f (a ∷ x ∷ xs) × Bounded f (a ∷ x ∷ xs)
  by_test true p h = from_later x xs a f p (ih x f h)
  by_test false p h = from_earlier x xs a f p (ih a f h)

first_some : (fs : List Found) (a f : Found) → first_with (Some a) fs ≡ Some f → Among f (a ∷ fs) × Bounded f (a ∷ fs)
unfolding first_with
first_some [] a f h =
    let e : a ≡ f = cc in
    (inl (sym e), λ g. elim [ inl q ↦ subst (λ z. is_before g z ≡ false) e (subst (λ z. is_before z a ≡ false) (sym q) (not_self a)) | inr r ↦ absurd r ])
first_some (x ∷ xs) a f h = by_test xs (first_some xs) x a f (is_before x a) refl h

-- the first fault of a list is among it, and no fault of the list is before it; there is none where the list is empty
pub first_is_first : (fs : List Found) (f : Found) → first_with None fs ≡ Some f → IsFirst f fs
unfolding first_with
first_is_first [] f h = cc
first_is_first (x ∷ xs) f h = let r = first_some xs x f h in (r.0, r.1)

some_by : (xs : List Found) (x a : Found) → ((c : Found) → first_with (Some c) xs ≡ None → ⊥) → (b : Bool) → first_with (if b then Some x else Some a) xs ≡ None → ⊥
some_by xs x a ih true h = ih x h
some_by xs x a ih false h = ih a h

some_first : (fs : List Found) (a : Found) → first_with (Some a) fs ≡ None → ⊥
unfolding first_with
some_first [] a h = cc
some_first (x ∷ xs) a h = some_by xs x a (some_first xs) (is_before x a) h

pub none_is_none : (fs : List Found) → first_with None fs ≡ None → fs ≡ []
unfolding first_with
none_is_none [] h = refl
none_is_none (x ∷ xs) h = absurd (some_first xs x h)
