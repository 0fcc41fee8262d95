-- What a clause is, by its literals that aren't false.
use Rattle.std.proofs.Common.{◌≡◌, ℕ, ◌+◌, ◌<◌, ◌≤◌, Bool, true, false, List, [], ◌∷◌, ◌++◌, length, take, drop, get_or, refl, sym, ◌∙◌, ap, Option, None, Some, option_to_list}
use Rattle.std.specs.Prelude.{ℤ, neg_ℤ, not, ◌&&◌, if◌then◌else◌}
use Rattle.std.specs.Option.{is_some}
use Rattle.std.proofs.lemmas.List.{take-append-drop, take_all, take_more}
use Rattle.std.proofs.lemmas.List.Elements.{filter-append}
use Rattle.cnf.specs.Clauses.{IsClause, IsLiteral}
use Rattle.cnf.proofs.ClauseLaws.{equal_literal, literal_in_clause}
use Rattle.search.proofs.KeptLaws.{has_filtered}
use Rattle.search.specs.Machine.{is_conflict, remaining, unit_of}

pub remaining_more : (set : ℤ → Bool) (xs : List ℤ) (i : ℕ) (d : ℤ) → i < length xs → remaining set (take (i + 1) xs) ≡ remaining set (take i xs) ++ remaining set (get_or xs i d ∷ [])
remaining_more set xs i d h =
    ap (remaining set) (take_more xs i d h) ∙ filter-append (λ x. not (set (neg_ℤ x))) (take i xs) (get_or xs i d ∷ [])

-- one more literal that is false
pub false_more : (set : ℤ → Bool) (xs : List ℤ) (i : ℕ) (d : ℤ) (left : List ℤ) → i < length xs → set (neg_ℤ (get_or xs i d)) ≡ true → remaining set (take i xs) ≡ left
    → remaining set (take (i + 1) xs) ≡ left
false_more set xs i d left h f e = remaining_more set xs i d h ∙ rw (f, e) (nothing left)
  where
    nothing : (ys : List ℤ) → ys ++ [] ≡ ys
    nothing [] = refl
    nothing (y ∷ ys) = ap (λ zs. y ∷ zs) (nothing ys)

-- one more that isn't
pub left_more : (set : ℤ → Bool) (xs : List ℤ) (i : ℕ) (d : ℤ) (left : List ℤ) → i < length xs → set (neg_ℤ (get_or xs i d)) ≡ false → remaining set (take i xs) ≡ left
    → remaining set (take (i + 1) xs) ≡ left ++ get_or xs i d ∷ []
left_more set xs i d left h f e = remaining_more set xs i d h ∙ rw (f, e) refl

pub conflict_empties : (set : ℤ → Bool) (xs : List ℤ) → is_conflict set xs ≡ true → remaining set xs ≡ []
conflict_empties set [] h = refl
conflict_empties set (x ∷ xs) h = by_test (set (neg_ℤ x)) h (conflict_empties set xs)
  where
    by_test : (b : Bool) → (b && is_conflict set xs) ≡ true → (is_conflict set xs ≡ true → remaining set xs ≡ []) → (if not b then x ∷ remaining set xs else remaining set xs) ≡ []
    by_test true g rest = rest g
    by_test false g rest = absurd cc

pub empty_conflicts : (set : ℤ → Bool) (xs : List ℤ) → remaining set xs ≡ [] → is_conflict set xs ≡ true
empty_conflicts set [] h = refl
empty_conflicts set (x ∷ xs) h = by_test (set (neg_ℤ x)) h (empty_conflicts set xs)
  where
    by_test : (b : Bool) → (if not b then x ∷ remaining set xs else remaining set xs) ≡ [] → (remaining set xs ≡ [] → is_conflict set xs ≡ true) → (b && is_conflict set xs) ≡ true
    by_test true g rest = rest g
    by_test false g rest = absurd cc

pub left_over : (set : ℤ → Bool) (xs : List ℤ) (x : ℤ) (rest : List ℤ) → remaining set xs ≡ x ∷ rest → is_conflict set xs ≡ false
left_over set xs x rest e = by_test (is_conflict set xs) refl
  where
    by_test : (b : Bool) → is_conflict set xs ≡ b → is_conflict set xs ≡ false
    by_test true f = let none = conflict_empties set xs f in absurd cc
    by_test false f = f

-- two that aren't false
pub two_left : (set : ℤ → Bool) (xs : List ℤ) (x y : ℤ) (rest : List ℤ) → remaining set xs ≡ x ∷ y ∷ rest → (is_conflict set xs ≡ false) × (unit_of set xs ≡ None)
two_left set xs x y rest e = (left_over set xs x (y ∷ rest) e, rw e refl)

-- one that isn't false, but true
pub true_left : (set : ℤ → Bool) (xs : List ℤ) (x : ℤ) → remaining set xs ≡ x ∷ [] → set x ≡ true → (is_conflict set xs ≡ false) × (unit_of set xs ≡ None)
true_left set xs x e h = (left_over set xs x [] e, rw (e, h) refl)

not_in_remaining : (set : ℤ → Bool) (xs : List ℤ) (x : ℤ) (rest : List ℤ) → remaining set xs ≡ x ∷ rest → set (neg_ℤ x) ≡ false
not_in_remaining set [] x rest e = absurd cc
not_in_remaining set (y ∷ ys) x rest e = by_test (set (neg_ℤ y)) refl e (not_in_remaining set ys x rest)
  where
    by_test : (b : Bool) → set (neg_ℤ y) ≡ b → (if not b then y ∷ remaining set ys else remaining set ys) ≡ x ∷ rest → (remaining set ys ≡ x ∷ rest → set (neg_ℤ x) ≡ false) → set (neg_ℤ x) ≡ false
    by_test true f g more = more g
    by_test false f g more = let same : y ≡ x = cc in rw (← same) f

-- what is left of a clause is a literal
pub left_literal : (set : ℤ → Bool) (xs : List ℤ) (x : ℤ) → IsClause xs → remaining set xs ≡ x ∷ [] → IsLiteral x
left_literal set xs x rises e =
    literal_in_clause 0 xs x rises (has_filtered (λ y. not (set (neg_ℤ y))) xs x (rw (e, equal_literal x x refl) refl))

-- one that is open
pub open_left : (set : ℤ → Bool) (xs : List ℤ) (x : ℤ) → IsClause xs → remaining set xs ≡ x ∷ [] → set x ≡ false
    → (is_conflict set xs ≡ false) × (unit_of set xs ≡ Some x) × IsLiteral x
open_left set xs x rises e h = (left_over set xs x [] e, rw (e, h, not_in_remaining set xs x [] e) refl, left_literal set xs x rises e)

-- what is left of a beginning is a beginning of what is left
pub rest_left : (set : ℤ → Bool) (xs : List ℤ) (i : ℕ) (left : List ℤ) → remaining set (take i xs) ≡ left → remaining set xs ≡ left ++ remaining set (drop i xs)
rest_left set xs i left e =
    ap (remaining set) (sym (take-append-drop i xs)) ∙ filter-append (λ x. not (set (neg_ℤ x))) (take i xs) (drop i xs) ∙ ap (λ ys. ys ++ remaining set (drop i xs)) e

-- a second one that isn't false
pub second_left : (set : ℤ → Bool) (xs : List ℤ) (i : ℕ) (d : ℤ) (left : Option ℤ) → i < length xs → set (neg_ℤ (get_or xs i d)) ≡ false → remaining set (take i xs) ≡ option_to_list left
    → is_some left ≡ true → (is_conflict set xs ≡ false) × (unit_of set xs ≡ None)
second_left set xs i d None h f e some = absurd cc
second_left set xs i d (Some a) h f e some =
    two_left set xs a (get_or xs i d) (remaining set (drop (i + 1) xs)) (rest_left set xs (i + 1) (a ∷ get_or xs i d ∷ []) (left_more set xs i d (a ∷ []) h f e))

-- the whole list
pub whole_left : (set : ℤ → Bool) (xs : List ℤ) (i : ℕ) (left : List ℤ) → length xs ≤ i → remaining set (take i xs) ≡ left → remaining set xs ≡ left
whole_left set xs i left h e = rw (take_all i xs h) at e
