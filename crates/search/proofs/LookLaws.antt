-- A clause one of whose watched literals is false.
use Rattle.std.proofs.Common.{◌≡◌, ◌⊎◌, ℕ, ◌+◌, ◌<◌, ◌≤◌, Bool, true, false, ◌||◌, List, ◌∷◌, [], length, take, get_or, refl, sym, ◌∙◌, ap, Some, pos}
use mathlib.Core.Logic.{inl, inr}
use Rattle.std.specs.Prelude.{ℤ, neg_ℤ}
use Rattle.std.specs.List.{list_any}
use Rattle.std.proofs.lemmas.List.Folds.{list_any_at}
use Rattle.std.specs.Ordering.{int_eq}
use Rattle.std.proofs.lemmas.List.{take_all}
use Rattle.cnf.specs.Clauses.{IsClause, has_literal}
use Rattle.cnf.proofs.ClauseLaws.{equal_literal, same_literal}
use Rattle.cnf.proofs.literal_marks.MarksLaws.{has_literal-more}
use Rattle.search.specs.Machine.{is_conflict, unit_of}
use Rattle.search.proofs.BackLaws.{or_behind, or_cases}
use Rattle.search.proofs.LessonLaws.{lone_remains, nothing_false}
use Rattle.search.proofs.StatusLaws.{empty_conflicts}

pub none_more : (set : ℤ → Bool) (xs : List ℤ) (i : ℕ) (partner : ℤ) → i < length xs → ((y : ℤ) → has_literal (take i xs) y ≡ true → int_eq y partner ≡ false → set (neg_ℤ y) ≡ true)
    → (int_eq (get_or xs i (pos 0)) partner ≡ true) ⊎ (set (neg_ℤ (get_or xs i (pos 0))) ≡ true) → (y : ℤ) → has_literal (take (i + 1) xs) y ≡ true → int_eq y partner ≡ false → set (neg_ℤ y) ≡ true
none_more set xs i partner h before here y has other = by_side (or_cases _ _ (sym (has_literal-more xs i y h) ∙ has))
  where
    by_kind : (get_or xs i (pos 0) ≡ y) → (int_eq (get_or xs i (pos 0)) partner ≡ true) ⊎ (set (neg_ℤ (get_or xs i (pos 0))) ≡ true) → set (neg_ℤ y) ≡ true
    by_kind e (inl f) = let no : true ≡ false = sym f ∙ ap (λ z. int_eq z partner) e ∙ other in absurd cc
    by_kind e (inr f) = ap (λ z. set (neg_ℤ z)) (sym e) ∙ f

    by_side : (has_literal (take i xs) y ≡ true) ⊎ (int_eq (get_or xs i (pos 0)) y ≡ true) → set (neg_ℤ y) ≡ true
    by_side (inl f) = before y f other
    by_side (inr f) = by_kind (same_literal _ _ f) here

pub none_at_all : (set : ℤ → Bool) (xs : List ℤ) (i : ℕ) (partner : ℤ) → length xs ≤ i → ((y : ℤ) → has_literal (take i xs) y ≡ true → int_eq y partner ≡ false → set (neg_ℤ y) ≡ true)
    → (y : ℤ) → has_literal xs y ≡ true → int_eq y partner ≡ false → set (neg_ℤ y) ≡ true
none_at_all set xs i partner h before y has = before y (ap (λ zs. has_literal zs y) (take_all i xs h) ∙ has)

pub all_false : (set : ℤ → Bool) (xs : List ℤ) (partner : ℤ) → ((y : ℤ) → has_literal xs y ≡ true → int_eq y partner ≡ false → set (neg_ℤ y) ≡ true) → set (neg_ℤ partner) ≡ true
    → is_conflict set xs ≡ true
all_false set xs partner others own = empty_conflicts set xs (nothing_false set xs (λ y h. by_test y h (int_eq y partner) refl))
  where
    by_test : (y : ℤ) → has_literal xs y ≡ true → (b : Bool) → int_eq y partner ≡ b → set (neg_ℤ y) ≡ true
    by_test y h true f = ap (λ z. set (neg_ℤ z)) (same_literal y partner f) ∙ own
    by_test y h false f = others y h f

pub all_but_one : (set : ℤ → Bool) (xs : List ℤ) (x : ℤ) → IsClause xs → has_literal xs x ≡ true → ((y : ℤ) → has_literal xs y ≡ true → int_eq y x ≡ false → set (neg_ℤ y) ≡ true)
    → set (neg_ℤ x) ≡ false → set x ≡ false → unit_of set xs ≡ Some x
all_but_one set xs x is own others negative positive = rw (lone_remains 0 set xs x is own (λ y h other. by_test y h other (int_eq y x) refl) negative, positive, negative) refl
  where
    by_test : (y : ℤ) → has_literal xs y ≡ true → (y ≡ x → ⊥) → (b : Bool) → int_eq y x ≡ b → set (neg_ℤ y) ≡ true
    by_test y h other true f = absurd (other (same_literal y x f))
    by_test y h other false f = others y h f

pub satisfied_by : (set : ℤ → Bool) (xs : List ℤ) (x : ℤ) → has_literal xs x ≡ true → set x ≡ true → list_any set xs ≡ true
satisfied_by set [] x h own = absurd cc
satisfied_by set (y ∷ ys) x h own = by_test (int_eq y x) refl h (λ g. satisfied_by set ys x g own)
  where
    by_test : (b : Bool) → int_eq y x ≡ b → (b || has_literal ys x) ≡ true → (has_literal ys x ≡ true → list_any set ys ≡ true) → (set y || list_any set ys) ≡ true
    by_test true e g rest = let here : set y ≡ true = ap set (same_literal y x e) ∙ own in rw here refl
    by_test false e g rest = or_behind (set y) _ (rest g)

pub has_at : (xs : List ℤ) (i : ℕ) → i < length xs → has_literal xs (get_or xs i (pos 0)) ≡ true
has_at xs i h = list_any_at (λ y. int_eq y (get_or xs i (pos 0))) xs i (pos 0) h (equal_literal (get_or xs i (pos 0)) (get_or xs i (pos 0)) refl)

pub other_test : (x y : ℤ) → (x ≡ y → ⊥) → int_eq x y ≡ false
other_test x y h = by_test (int_eq x y) refl
  where
    by_test : (b : Bool) → int_eq x y ≡ b → int_eq x y ≡ false
    by_test true e = absurd (h (same_literal x y e))
    by_test false e = e
