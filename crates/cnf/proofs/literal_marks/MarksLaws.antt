-- What the proofs about marks share.
use Rattle.std.proofs.Common.{◌≡◌, ℕ, ◌+◌, ◌<◌, Bool, true, false, ◌||◌, List, length, get_or, take, set, refl, sym, ◌∙◌, ap, cond, Option, None, Some}
use Rattle.std.specs.Prelude.{ℤ, pos, not, ◌&&◌, nat_lt, IsTrue}
use Rattle.std.specs.Ordering.{int_eq}
use Rattle.std.proofs.lemmas.Bool.Decides.{Decides-int_eq, Decides-ltb}
use Rattle.std.proofs.lemmas.List.{get_or-set_same, get_or-set_other}
use Rattle.std.proofs.lemmas.List.Folds.{list_any_more}
use Rattle.std.specs.Option.{option_map_or}
use Rattle.cnf.specs.Clauses.{has_literal}
use Rattle.cnf.proofs.ClauseLaws.{same_test}
use Rattle.cnf.specs.declared.literal_marks.places.Places.{Places}
use Rattle.cnf.specs.literal_marks.Places.{place_of}
use Rattle.cnf.specs.literal_marks.Marks.{has_place, marked}
use Rattle.cnf.proofs.literal_marks.PlacesLaws.{one_place}

pub int_eq-sym : (x y : ℤ) → int_eq x y ≡ int_eq y x
int_eq-sym x y =
    same_test (int_eq x y) (int_eq y x)
    (λ e. (Decides-int_eq y x).1 (sym ((Decides-int_eq x y).0 e)))
    (λ e. (Decides-int_eq x y).1 (sym ((Decides-int_eq y x).0 e)))

-- the mark of a literal is written
marked-set : (places : Places) (marks : List Bool) (literal x : ℤ) (i : ℕ) (b : Bool) → place_of places literal ≡ Some i → i < length marks
    → marked places (set marks i b) x ≡ cond (int_eq literal x) b (marked places marks x)
marked-set places marks literal x i b at h = by_test (int_eq literal x) refl (place_of places x) refl
  where
    by_test : (t : Bool) → int_eq literal x ≡ t → (p : Option ℕ) → place_of places x ≡ p
        → option_map_or (λ j. get_or (set marks i b) j false) p false ≡ cond t b (option_map_or (λ j. get_or marks j false) p false)
    by_test true e None f = let same : literal ≡ x = (Decides-int_eq literal x).0 e in let no : Some i ≡ None = sym at ∙ ap (place_of places) same ∙ f in absurd cc
    by_test true e (Some j) f =
        let same : literal ≡ x = (Decides-int_eq literal x).0 e in
        let here : i ≡ j = let is : Some i ≡ Some j = sym at ∙ ap (place_of places) same ∙ f in cc in
        rw (← here) (get_or-set_same marks i b false h)
    by_test false e None f = refl
    by_test false e (Some j) f =
        get_or-set_other marks i j b false
        (λ k. let one : literal ≡ x = one_place places literal x i at (f ∙ ap Some k) in let no : true ≡ false = sym ((Decides-int_eq literal x).1 one) ∙ e in absurd cc)

pub marked-mark : (places : Places) (marks : List Bool) (literal x : ℤ) (i : ℕ) → place_of places literal ≡ Some i → i < length marks
    → marked places (set marks i true) x ≡ (marked places marks x || int_eq literal x)
marked-mark places marks literal x i at h = marked-set places marks literal x i true at h ∙ by_test (int_eq literal x) (marked places marks x)
  where
    by_test : (t m : Bool) → cond t true m ≡ (m || t)
    by_test true true = refl
    by_test true false = refl
    by_test false true = refl
    by_test false false = refl

pub marked-unmark : (places : Places) (marks : List Bool) (literal x : ℤ) (i : ℕ) → place_of places literal ≡ Some i → i < length marks
    → marked places (set marks i false) x ≡ (marked places marks x && not (int_eq x literal))
marked-unmark places marks literal x i at h =
    marked-set places marks literal x i false at h ∙ rw (int_eq-sym x literal) (by_test (int_eq literal x) (marked places marks x))
  where
    by_test : (t m : Bool) → cond t false m ≡ (m && not t)
    by_test true true = refl
    by_test true false = refl
    by_test false true = refl
    by_test false false = refl

-- a literal without a mark isn't marked
pub marked-other : (places : Places) (marks : List Bool) (literal x : ℤ) → marked places marks literal ≡ false
    → marked places marks x ≡ (marked places marks x && not (int_eq x literal))
marked-other places marks literal x none = by_test (int_eq x literal) refl (marked places marks x) refl
  where
    by_test : (t : Bool) → int_eq x literal ≡ t → (m : Bool) → marked places marks x ≡ m → m ≡ (m && not t)
    by_test false e true f = refl
    by_test false e false f = refl
    by_test true e false f = refl
    by_test true e true f =
        let same : x ≡ literal = (Decides-int_eq x literal).0 e in
        let no : true ≡ false = sym f ∙ ap (marked places marks) same ∙ none in
        absurd cc

-- where a literal that has a place stands
pub place_fits : (places : Places) (size : ℕ) (literal : ℤ) (i : ℕ) → place_of places literal ≡ Some i → IsTrue (has_place places size literal) → i < size
place_fits places size literal i at has =
    let test : nat_lt i size ≡ true = rw at at has in
    (Decides-ltb i size).0 test

-- a table without marks marks nothing
pub clear_marks : (places : Places) (marks : List Bool) → ((k : ℕ) → get_or marks k false ≡ false) → (x : ℤ) → marked places marks x ≡ false
clear_marks places marks none x = by_place (place_of places x)
  where
    by_place : (p : Option ℕ) → option_map_or (λ j. get_or marks j false) p false ≡ false
    by_place None = refl
    by_place (Some j) = none j

-- ---- literals that are marked in turn

pub has_literal-more : (literals : List ℤ) (i : ℕ) (x : ℤ) → i < length literals
    → has_literal (take (i + 1) literals) x ≡ (has_literal (take i literals) x || int_eq (get_or literals i (pos 0)) x)
has_literal-more literals i x h = list_any_more (λ y. int_eq y x) literals i (pos 0) h

pub others_more : (places : Places) (old now new : List Bool) (literals : List ℤ) (i : ℕ) (skipped : ℤ) → i < length literals
    → ((x : ℤ) → marked places now x ≡ (marked places old x || (has_literal (take i literals) x && not (int_eq x skipped))))
    → ((x : ℤ) → marked places new x ≡ (marked places now x || (int_eq (get_or literals i (pos 0)) x && not (int_eq x skipped))))
    → (x : ℤ) → marked places new x ≡ (marked places old x || (has_literal (take (i + 1) literals) x && not (int_eq x skipped)))
others_more places old now new literals i skipped h before step x =
    rw (step x, before x, has_literal-more literals i x h)
    (regroup (marked places old x) (has_literal (take i literals) x) (int_eq (get_or literals i (pos 0)) x) (not (int_eq x skipped)))
  where
    regroup : (a b c n : Bool) → ((a || (b && n)) || (c && n)) ≡ (a || ((b || c) && n))
    regroup true b c n = refl
    regroup false true true true = refl
    regroup false true true false = refl
    regroup false true false true = refl
    regroup false true false false = refl
    regroup false false c n = refl

or_true : (a : Bool) → (a || true) ≡ true
or_true true = refl
or_true false = refl

or_false : (a : Bool) → (a || false) ≡ a
or_false true = refl
or_false false = refl

pub found_here : (literals : List ℤ) (i : ℕ) (skipped : ℤ) (found now : Bool) → i < length literals → now ≡ int_eq (get_or literals i (pos 0)) skipped
    → found ≡ has_literal (take i literals) skipped → now ≡ true → true ≡ has_literal (take (i + 1) literals) skipped
found_here literals i skipped found now h e f g = rw (has_literal-more literals i skipped h, ← e, g) (sym (or_true (has_literal (take i literals) skipped)))

pub not_found_here : (literals : List ℤ) (i : ℕ) (skipped : ℤ) (found now : Bool) → i < length literals → now ≡ int_eq (get_or literals i (pos 0)) skipped
    → found ≡ has_literal (take i literals) skipped → now ≡ false → found ≡ has_literal (take (i + 1) literals) skipped
not_found_here literals i skipped found now h e f g = rw (has_literal-more literals i skipped h, ← e, g) (f ∙ sym (or_false (has_literal (take i literals) skipped)))
