-- Clauses all of whose literals, or all but one, are false.
use Rattle.std.proofs.Common.{◌≡◌, ℕ, zero, suc, ◌+◌, Bool, true, false, ◌||◌, List, [], ◌∷◌, take, refl, sym, ◌∙◌, ap, arith, Some}
use Rattle.std.specs.Prelude.{ℤ, neg_ℤ, not, slice_get, All, if◌then◌else◌}
use Rattle.std.specs.Ordering.{int_eq}
use Rattle.cnf.specs.Clauses.{IsLiteral, RisesFrom, has_literal, literal_key}
use Rattle.cnf.proofs.ClauseLaws.{same_literal, equal_literal, same_test, literal_in_clause}
use Rattle.search.specs.declared.trail.Entry.{Entry}
use Rattle.search.specs.Machine.{IsOver, is_conflict, is_true, remaining}
use Rattle.search.specs.Trails.{are_over}
use Rattle.search.proofs.BackLaws.{negated_twice, true_next}
use Rattle.search.proofs.KeptLaws.{and_left, and_right, is_over-tells}
use Rattle.search.proofs.StatusLaws.{conflict_empties}

-- ---- literals

pub negation_test : (x y : ℤ) → int_eq x (neg_ℤ y) ≡ int_eq (neg_ℤ x) y
negation_test x y =
    same_test (int_eq x (neg_ℤ y)) (int_eq (neg_ℤ x) y)
    (λ e. equal_literal (neg_ℤ x) y (ap neg_ℤ (same_literal x (neg_ℤ y) e) ∙ negated_twice y))
    (λ e. equal_literal x (neg_ℤ y) (sym (negated_twice x) ∙ ap neg_ℤ (same_literal (neg_ℤ x) y e)))

pub next_against : (trail : List Entry) (i : ℕ) (e : Entry) (x : ℤ) → slice_get trail i ≡ Some e
    → is_true (take (i + 1) trail) (neg_ℤ x) ≡ (is_true (take i trail) (neg_ℤ x) || int_eq (neg_ℤ e.literal) x)
next_against trail i e x at = true_next trail i e (neg_ℤ x) at ∙ ap (λ t. is_true (take i trail) (neg_ℤ x) || t) (negation_test e.literal x)

pub literals_of_trail : (n : ℕ) (trail : List Entry) → ((x : ℤ) → IsOver n x → IsLiteral x) → are_over n trail ≡ true → All (λ (e : Entry). IsLiteral e.literal) trail
literals_of_trail n [] is over k d h = absurd (omega arith)
literals_of_trail n (e ∷ trail) is over zero d h = is e.literal (is_over-tells n e.literal (and_left _ _ over))
literals_of_trail n (e ∷ trail) is over (suc k) d h = literals_of_trail n trail is (and_right _ _ over) k d (omega arith)

-- ---- what isn't false of a clause

pub nothing_false : (set : ℤ → Bool) (xs : List ℤ) → ((y : ℤ) → has_literal xs y ≡ true → set (neg_ℤ y) ≡ true) → remaining set xs ≡ []
nothing_false set xs all = conflict_empties set xs (all_false xs all)
  where
    all_false : (ys : List ℤ) → ((y : ℤ) → has_literal ys y ≡ true → set (neg_ℤ y) ≡ true) → is_conflict set ys ≡ true
    all_false [] each = refl
    all_false (y ∷ ys) each =
        let own : set (neg_ℤ y) ≡ true = each y (rw (equal_literal y y refl) refl) in
        rw own (all_false ys (λ z h. each z (later (int_eq y z) _ h)))
      where
        later : (a b : Bool) → b ≡ true → (a || b) ≡ true
        later true b h = refl
        later false b h = h

-- all literals of a clause but one are false
pub lone_remains : (low : ℕ) (set : ℤ → Bool) (xs : List ℤ) (x : ℤ) → RisesFrom low xs → has_literal xs x ≡ true → ((y : ℤ) → has_literal xs y ≡ true → (y ≡ x → ⊥) → set (neg_ℤ y) ≡ true)
    → set (neg_ℤ x) ≡ false → remaining set xs ≡ x ∷ []
lone_remains low set [] x r here others own = absurd cc
lone_remains low set (z ∷ zs) x r here others own = by_test (int_eq z x) refl here (lone_remains (literal_key z) set zs x r.2)
  where
    later : (a b : Bool) → b ≡ true → (a || b) ≡ true
    later true b h = refl
    later false b h = h

    in_rest : (y : ℤ) → has_literal zs y ≡ true → (y ≡ x → ⊥) → set (neg_ℤ y) ≡ true
    in_rest y h other = others y (later (int_eq z y) (has_literal zs y) h) other

    by_test : (b : Bool) → int_eq z x ≡ b → (b || has_literal zs x) ≡ true
        → (has_literal zs x ≡ true → ((y : ℤ) → has_literal zs y ≡ true → (y ≡ x → ⊥) → set (neg_ℤ y) ≡ true) → set (neg_ℤ x) ≡ false → remaining set zs ≡ x ∷ [])
        → (if not (set (neg_ℤ z)) then z ∷ remaining set zs else remaining set zs) ≡ x ∷ []
    by_test true f g rest =
        let same : z ≡ x = same_literal z x f in
        let mine : set (neg_ℤ z) ≡ false = ap (λ w. set (neg_ℤ w)) same ∙ own in
        let none = nothing_false set zs (λ y h. in_rest y h (λ e. let above = literal_in_clause (literal_key z) zs y r.2 h in let at : literal_key y ≡ literal_key z = ap literal_key (e ∙ sym same) in omega (arith, above.0, at))) in
        rw (mine, none) (ap (λ w. w ∷ []) same)
    by_test false f g rest =
        let mine : set (neg_ℤ z) ≡ true = others z (or_own z zs) (λ e. let yes = equal_literal z x e in let no : true ≡ false = sym yes ∙ f in absurd cc) in
        rw mine (rest g in_rest own)
      where
        or_own : (w : ℤ) (ws : List ℤ) → has_literal (w ∷ ws) w ≡ true
        or_own w ws = rw (equal_literal w w refl) refl
