-- Elements of lists and their places.
use Rattle.std.proofs.Common.{◌≡◌, ℕ, zero, suc, ◌<◌, List, [], ◌∷◌, ◌++◌, length, reverse, Some, refl, sym, ap, subst, inl, inr, ⊎_elim, arith}
use Rattle.std.specs.Prelude.{◌⊎◌, slice_get}
use Rattle.std.proofs.lemmas.List.{reverse-append}
use Rattle.cfa.specs.Contexts.{Pair}
use Rattle.unwinder_reach.specs.reached.Reaching.{AreDistinct}
use Rattle.unwinder_reach.specs.reached.Searching.{IsIn, IsApart}

module _ {X : Type 0} where
  pub in_left : (xs ys : List X) (x : X) → IsIn xs x → IsIn (xs ++ ys) x
  in_left [] ys x h = absurd h
  in_left (z ∷ xs) ys x h = ⊎_elim (λ e. inl e) (λ r. inr (in_left xs ys x r)) h

  pub in_right : (xs ys : List X) (x : X) → IsIn ys x → IsIn (xs ++ ys) x
  in_right [] ys x h = h
  in_right (z ∷ xs) ys x h = inr (in_right xs ys x h)

  pub in_parts : (xs ys : List X) (x : X) → IsIn (xs ++ ys) x → IsIn xs x ⊎ IsIn ys x
  in_parts [] ys x h = inr h
  in_parts (z ∷ xs) ys x h =
      ⊎_elim (λ e. inl (inl e)) (λ r. ⊎_elim (λ a. inl (inr a)) (λ b. inr b) (in_parts xs ys x r)) h

  pub reverse_cons : (x : X) (xs : List X) → reverse (x ∷ xs) ≡ reverse xs ++ x ∷ []
  reverse_cons x xs = reverse-append (x ∷ []) xs

  pub reverse_push : (xs : List X) (x : X) → reverse (xs ++ x ∷ []) ≡ x ∷ reverse xs
  reverse_push xs x = reverse-append xs (x ∷ [])

  pub in_reverse : (xs : List X) (x : X) → IsIn xs x → IsIn (reverse xs) x
  in_reverse [] x h = absurd h
  in_reverse (y ∷ ys) x h =
      subst (λ l. IsIn l x) (sym (reverse_cons y ys))
      (⊎_elim (λ e. in_right (reverse ys) (y ∷ []) x (inl e)) (λ r. in_left (reverse ys) (y ∷ []) x (in_reverse ys x r)) h)

  pub place_of : (xs : List X) (x : X) → IsIn xs x → (i : ℕ) × (i < length xs) × (slice_get xs i ≡ Some x)
  place_of [] x h = absurd h
  place_of (y ∷ ys) x h = ⊎_elim (λ e. (0, omega arith, ap Some e)) (λ r. let p = place_of ys x r in (suc p.0, omega (arith, p.1), p.2)) h

  pub in_at : (xs : List X) (i : ℕ) (x : X) → slice_get xs i ≡ Some x → IsIn xs x
  in_at [] i x e = absurd (cc)
  in_at (y ∷ ys) zero x e = let same : y ≡ x = cc in inl same
  in_at (y ∷ ys) (suc i) x e = inr (in_at ys i x e)

  pub get_left : (xs ys : List X) (i : ℕ) (x : X) → slice_get xs i ≡ Some x → slice_get (xs ++ ys) i ≡ Some x
  get_left [] ys i x e = absurd (cc)
  get_left (z ∷ xs) ys zero x e = e
  get_left (z ∷ xs) ys (suc i) x e = get_left xs ys i x e

  pub get_end : (xs : List X) (x : X) → slice_get (xs ++ x ∷ []) (length xs) ≡ Some x
  get_end [] x = refl
  get_end (z ∷ xs) x = get_end xs x

-- where no pair is twice, its place is one
pub apart_places : (ps : List Pair) → IsApart ps → AreDistinct ps
apart_places [] h i j p e d = absurd (cc)
apart_places (q ∷ ps) h zero zero p e d = refl
apart_places (q ∷ ps) h zero (suc j) p e d = let same : p ≡ q = cc in absurd (h.0 (subst (IsIn ps) same (in_at ps j p d)))
apart_places (q ∷ ps) h (suc i) zero p e d = let same : p ≡ q = cc in absurd (h.0 (subst (IsIn ps) same (in_at ps i p e)))
apart_places (q ∷ ps) h (suc i) (suc j) p e d = ap suc (apart_places ps h.1 i j p e d)

pub apart_append : (ps qs : List Pair) → IsApart ps → IsApart qs → ((p : Pair) → IsIn ps p → ¬ IsIn qs p) → IsApart (ps ++ qs)
apart_append [] qs h k other = k
apart_append (p ∷ ps) qs h k other =
    (λ i. ⊎_elim (λ a. h.0 a) (λ b. other p (inl refl) b) (in_parts ps qs p i), apart_append ps qs h.1 k (λ r i. other r (inr i)))

pub push_cases : {X : Type 0} (xs : List X) (x : X) (k : ℕ) (y : X) → slice_get (xs ++ x ∷ []) k ≡ Some y → (slice_get xs k ≡ Some y) ⊎ ((k ≡ length xs) × (x ≡ y))
push_cases [] x zero y e = let same : x ≡ y = cc in inr (refl, same)
push_cases [] x (suc k) y e = absurd (cc)
push_cases (z ∷ xs) x zero y e = inl e
push_cases (z ∷ xs) x (suc k) y e = ⊎_elim (λ a. inl a) (λ b. inr (omega (arith, b.0), b.1)) (push_cases xs x k y e)
