-- Lists without doubles that have the same elements.
use Rattle.std.proofs.Common.{◌≡◌, ℕ, suc, ◌+◌, ◌≤◌, List, [], ◌∷◌, ◌++◌, length, Some, refl, sym, ap, subst, inl, inr, ⊎_elim, arith}
use Rattle.std.specs.Prelude.{◌⊎◌, slice_get, sum_by}
use Rattle.std.proofs.lemmas.List.Sums.{sum_by-append, sum_by-cons}
use Rattle.unwinder_reach.specs.reached.Searching.{IsIn}
use Rattle.unwinder_reach.proofs.reached.Lists.{in_left, in_parts, in_right, place_of}

-- no element is there twice
abbrev pub IsOnceEach : {X : Type 0} → List X → Type 0
IsOnceEach [] = Unit {0}
IsOnceEach (x ∷ xs) = (¬ IsIn xs x) × IsOnceEach xs

-- a list about one of its elements
pub record Around {X : Type 0} (xs : List X) (x : X) : Type 0 where
  pub left : List X
  pub right : List X
  pub is : xs ≡ left ++ x ∷ right

module _ {X : Type 0} where
  pub around : (xs : List X) (x : X) → IsIn xs x → Around xs x
  around [] x h = absurd h
  around (y ∷ ys) x h =
      ⊎_elim
      (λ e. record { left = []; right = ys; is = ap (λ z. z ∷ ys) e })
      (λ r. let a = around ys x r in record { left = y ∷ a.left; right = a.right; is = ap (λ l. y ∷ l) a.is })
      h

  -- what stands beside an element stands in the list
  pub in_beside : (left right : List X) (x z : X) → IsIn (left ++ right) z → IsIn (left ++ x ∷ right) z
  in_beside left right x z h =
      ⊎_elim (λ l. in_left left (x ∷ right) z l) (λ r. in_right left (x ∷ right) z (inr r)) (in_parts left right z h)

  pub beside_parts : (left right : List X) (x z : X) → IsIn (left ++ x ∷ right) z → (x ≡ z) ⊎ IsIn (left ++ right) z
  beside_parts left right x z h =
      ⊎_elim (λ l. inr (in_left left right z l)) (λ r. ⊎_elim (λ e. inl e) (λ k. inr (in_right left right z k)) r) (in_parts left (x ∷ right) z h)

  pub once_beside : (left right : List X) (x : X) → IsOnceEach (left ++ x ∷ right) → (¬ IsIn (left ++ right) x) × IsOnceEach (left ++ right)
  once_beside [] right x h = h
  once_beside (y ∷ left) right x h =
      let rest = once_beside left right x h.1 in (
        λ i. ⊎_elim (λ e. h.0 (subst (λ v. IsIn (left ++ x ∷ right) v) (sym e) (in_right left (x ∷ right) x (inl refl)))) (λ r. rest.0 r) i,
        (λ i. h.0 (in_beside left right x y i), rest.1),
      )

  pub sum_around : (weight : X → ℕ) (left right : List X) (x : X) → sum_by weight (left ++ x ∷ right) ≡ weight x + sum_by weight (left ++ right)
  sum_around weight left right x =
      let a = sum_by-append weight left (x ∷ right) in
      let b = sum_by-cons weight x right in
      let c = sum_by-append weight left right in
      omega (arith, a, b, c)

  pub length_around : (left right : List X) (x : X) → length (left ++ x ∷ right) ≡ suc (length (left ++ right))
  length_around [] right x = refl
  length_around (y ∷ left) right x = ap suc (length_around left right x)

  -- elements of the rest are elements beside
  rest_forth : (x : X) (xs left right : List X) → (¬ IsIn xs x) → ((z : X) → IsIn (x ∷ xs) z → IsIn (left ++ x ∷ right) z) → (z : X) → IsIn xs z → IsIn (left ++ right) z
  rest_forth x xs left right apart forth z h =
      ⊎_elim (λ e. absurd (apart (subst (λ v. IsIn xs v) (sym e) h))) (λ r. r) (beside_parts left right x z (forth z (inr h)))

  rest_back : (x : X) (xs left right : List X) → (¬ IsIn (left ++ right) x) → ((z : X) → IsIn (left ++ x ∷ right) z → IsIn (x ∷ xs) z) → (z : X) → IsIn (left ++ right) z → IsIn xs z
  rest_back x xs left right apart back z h =
      ⊎_elim (λ e. absurd (apart (subst (λ v. IsIn (left ++ right) v) (sym e) h))) (λ r. r) (back z (in_beside left right x z h))

  -- where each element of one list is in another, the other is no shorter
  pub no_longer : (xs ys : List X) → IsOnceEach xs → ((z : X) → IsIn xs z → IsIn ys z) → length xs ≤ length ys
  no_longer [] ys once forth = omega arith
  no_longer (x ∷ xs) ys once forth =
      let a = around ys x (forth x (inl refl)) in
      let rest = no_longer xs (a.left ++ a.right) once.1 (rest_forth x xs a.left a.right once.0 (λ z h. subst (λ l. IsIn l z) a.is (forth z h))) in
      let long = length_around a.left a.right x in
      let same = ap length a.is in
      omega (arith, rest, long, same)

  -- the same elements weigh the same
  pub same_sum : (weight : X → ℕ) (xs ys : List X) → IsOnceEach xs → IsOnceEach ys → ((z : X) → IsIn xs z → IsIn ys z) → ((z : X) → IsIn ys z → IsIn xs z) → sum_by weight xs ≡ sum_by weight ys
  same_sum weight [] [] once other forth back = refl
  same_sum weight [] (y ∷ ys) once other forth back = absurd (back y (inl refl))
  same_sum weight (x ∷ xs) ys once other forth back =
      let a = around ys x (forth x (inl refl)) in
      let beside = once_beside a.left a.right x (subst (λ l. IsOnceEach l) a.is other) in
      let rest = same_sum weight xs (a.left ++ a.right) once.1 beside.1
      (rest_forth x xs a.left a.right once.0 (λ z h. subst (λ l. IsIn l z) a.is (forth z h)))
      (rest_back x xs a.left a.right beside.0 (λ z h. back z (subst (λ l. IsIn l z) (sym a.is) h))) in
      let first = sum_by-cons weight x xs in
      let parted = sum_around weight a.left a.right x in
      let same = ap (sum_by weight) a.is in
      omega (arith, rest, first, parted, same)

  -- elements at places that differ
  pub once_each : (xs : List X) → ((i j : ℕ) (x : X) → slice_get xs i ≡ Some x → slice_get xs j ≡ Some x → i ≡ j) → IsOnceEach xs
  once_each [] distinct = tt
  once_each (x ∷ xs) distinct = (
    λ h. let p = place_of xs x h in let e = distinct 0 (suc p.0) x refl p.2 in absurd (omega (arith, e)),
    once_each xs (λ i j z a b. let e = distinct (suc i) (suc j) z a b in omega (arith, e)),
  )
