-- What stands at a place of a list, and behind it.
use Rattle.std.proofs.Common.{◌≡◌, ◌<◌, ℕ, zero, suc, refl, arith, ◌+◌, List, [], ◌∷◌, length, get_or, drop, Some, None, sym, ap, ◌∙◌, inl, inr}
use Rattle.std.specs.Prelude.{slice_get}
use Rattle.std.proofs.lemmas.List.{drop_all, drop_more}
use Rattle.std.proofs.lemmas.Option.{slice_get_cases, slice_get_within, get_or_from_slice_get}

pub none_behind : {X : Type 0} (xs : List X) (k : ℕ) → slice_get xs k ≡ None → drop k xs ≡ []
none_behind xs k e = elim ((slice_get_cases xs k).1) as (λ _. drop k xs ≡ []) [
  | inl h ↦ absurd (let k : Some h.0 ≡ None = sym h.2 ∙ e in cc)
  | inr h ↦ drop_all k xs h.0
]

pub some_behind : {X : Type 0} (xs : List X) (k : ℕ) (y : X) → slice_get xs k ≡ Some y → drop k xs ≡ y ∷ drop (k + 1) xs
some_behind xs k y e = drop_more xs k y (slice_get_within xs k y e) ∙ ap (λ z. z ∷ drop (k + 1) xs) (get_or_from_slice_get xs k y y e)

pub here_behind : {X : Type 0} (xs : List X) (i : ℕ) (x : X) → i < length xs → x ≡ get_or xs i x → drop i xs ≡ x ∷ drop (i + 1) xs
here_behind xs i x h is = drop_more xs i x h ∙ ap (λ z. z ∷ drop (i + 1) xs) (sym is)

-- within a list the element past it isn't asked for
pub get_any : {X : Type 0} (xs : List X) (i : ℕ) (d e : X) → i < length xs → get_or xs i d ≡ get_or xs i e
get_any [] i d e h = absurd (omega arith)
get_any (x ∷ xs) zero d e h = refl
get_any (x ∷ xs) (suc i) d e h = get_any xs i d e (omega arith)
