-- A resolvent follows from its two clauses.
use Rattle.std.proofs.Common.{◌≡◌, ℕ, zero, suc, Bool, true, false, ◌||◌, List, [], ◌∷◌, refl, sym, ◌∙◌, ap, subst, Option, None, Some}
use Rattle.std.specs.Prelude.{ℤ, pos, negsuc, neg_ℤ, not, ◌&&◌, All, option_and_then, IfSome, IsSomeAnd, if◌then◌else◌}
use Rattle.std.specs.Ordering.{int_eq}
use Rattle.std.proofs.lemmas.List.Elements.{All-head, All-tail}
use Rattle.cnf.specs.Checks.{IsRight, chain_of, numbered, resolved}
use Rattle.cnf.specs.Clauses.{has_literal}
use Rattle.cnf.specs.Formulas.{is_true_clause, is_true_literal}
use Rattle.cnf.specs.Resolution.{IsResolvent, can_resolve, resolvent}
use Rattle.cnf.specs.declared.derivation.DerivationLine.{DerivationLine}
use Rattle.cnf.proofs.ClauseLaws.{equal_literal, same_literal}

-- a set has a literal that the assignment makes true
HoldsIn : (ℕ → Bool) → (ℤ → Bool) → Type 0
HoldsIn value set = (x : ℤ) × (set x ≡ true) × (is_true_literal value x ≡ true)

or_right : (a b : Bool) → b ≡ true → (a || b) ≡ true
or_right true b e = refl
or_right false b e = e

opposite : (value : ℕ → Bool) (x : ℤ) → is_true_literal value x ≡ true → is_true_literal value (neg_ℤ x) ≡ true → ⊥
opposite value (pos zero) e f = absurd cc
opposite value (pos (suc n)) e f = let no : false ≡ true = sym (ap not e) ∙ f in absurd cc
opposite value (negsuc n) e f = let no : false ≡ true = sym (ap not f) ∙ e in absurd cc

true_literal : (value : ℕ → Bool) (clause : List ℤ) → is_true_clause value clause ≡ true → HoldsIn value (has_literal clause)
unfolding HoldsIn
true_literal value [] e = absurd cc
true_literal value (y ∷ ys) e = by_test (is_true_literal value y) refl e (true_literal value ys)
  where
    by_test : (b : Bool) → is_true_literal value y ≡ b → (b || is_true_clause value ys) ≡ true → (is_true_clause value ys ≡ true → HoldsIn value (has_literal ys))
        → HoldsIn value (has_literal (y ∷ ys))
    by_test true f g rest = (y, rw (equal_literal y y refl) refl, f)
    by_test false f g rest = let found = rest g in (found.0, or_right (int_eq y found.0) (has_literal ys found.0) found.1, found.2)

true_clause : (value : ℕ → Bool) (clause : List ℤ) (x : ℤ) → has_literal clause x ≡ true → is_true_literal value x ≡ true → is_true_clause value clause ≡ true
true_clause value [] x e f = absurd cc
true_clause value (y ∷ ys) x e f = by_test (int_eq y x) refl e (λ g. true_clause value ys x g f)
  where
    by_test : (b : Bool) → int_eq y x ≡ b → (b || has_literal ys x) ≡ true → (has_literal ys x ≡ true → is_true_clause value ys ≡ true) → is_true_clause value (y ∷ ys) ≡ true
    by_test true g h rest = let same : y ≡ x = same_literal y x g in rw (same, f) refl
    by_test false g h rest = or_right (is_true_literal value y) (is_true_clause value ys) (rest h)

resolvent_holds : (value : ℕ → Bool) (left right : ℤ → Bool) (pivot : ℤ) → HoldsIn value left → HoldsIn value right → HoldsIn value (resolvent left pivot right)
unfolding HoldsIn
resolvent_holds value left right pivot l r = by_left (int_eq l.0 pivot) refl
  where
    by_right : (b : Bool) → int_eq r.0 (neg_ℤ pivot) ≡ b → l.0 ≡ pivot → HoldsIn value (resolvent left pivot right)
    by_right true e at =
        let other : r.0 ≡ neg_ℤ pivot = same_literal r.0 (neg_ℤ pivot) e in
        absurd (opposite value pivot (rw at at l.2) (rw other at r.2))
    by_right false e at = (r.0, or_right (left r.0 && not (int_eq r.0 pivot)) _ (rw (r.1, e) refl), r.2)

    by_left : (b : Bool) → int_eq l.0 pivot ≡ b → HoldsIn value (resolvent left pivot right)
    by_left true e = by_right (int_eq r.0 (neg_ℤ pivot)) refl (same_literal l.0 pivot e)
    by_left false e = (l.0, rw (l.1, e) refl, l.2)

-- a resolvent as a clause
pub resolvent_true : (value : ℕ → Bool) (left right clause : List ℤ) (pivot : ℤ) → IsResolvent left pivot right (Some clause) → is_true_clause value left ≡ true → is_true_clause value right ≡ true → is_true_clause value clause ≡ true
unfolding HoldsIn
resolvent_true value left right clause pivot is l r =
    let found = resolvent_holds value (has_literal left) (has_literal right) pivot (true_literal value left l) (true_literal value right r) in
    true_clause value clause found.0 (is.2 found.0 ∙ found.1) found.2

pub resolvent_found : (value : ℕ → Bool) (left right next : List ℤ) (pivot : ℤ) (o : Option (List ℤ)) → o ≡ Some next → IsResolvent left pivot right o → is_true_clause value left ≡ true → is_true_clause value right ≡ true → is_true_clause value next ≡ true
resolvent_found value left right next pivot o e is l r =
    let own : IsResolvent left pivot right (Some next) = subst (IsResolvent left pivot right) e is in
    resolvent_true value left right next pivot own l r

-- ---- a line, by the clauses of its chain alone

-- the clause with a number is true, if there is one
abbrev pub IsTrueAt : (ℕ → Bool) → List (List ℤ) → ℕ → Type 0
IsTrueAt value earlier number = (clause : List ℤ) → numbered earlier number ≡ Some clause → is_true_clause value clause ≡ true

resolved_holds : (value : ℕ → Bool) (earlier : List (List ℤ)) (set : ℤ → Bool) (steps : List (ℕ × ℤ)) → All (λ (step : ℕ × ℤ). IsTrueAt value earlier step.0) steps → HoldsIn value set
    → IfSome (resolved earlier set steps) (HoldsIn value)
resolved_holds value earlier set [] all h = h
resolved_holds value earlier set (step ∷ steps) all h =
    by_clause (numbered earlier step.0) refl (λ next. resolved_holds value earlier next steps (All-tail (λ (s : ℕ × ℤ). IsTrueAt value earlier s.0) step steps all))
  where
    here : IsTrueAt value earlier step.0
    here = All-head (λ (s : ℕ × ℤ). IsTrueAt value earlier s.0) step steps all

    by_test : (b : Bool) (next : Option (ℤ → Bool)) → IfSome next (HoldsIn value) → IfSome (if b then next else None) (HoldsIn value)
    by_test true next f = f
    by_test false next f = tt

    by_clause : (o : Option (List ℤ)) → numbered earlier step.0 ≡ o → ((next : ℤ → Bool) → HoldsIn value next → IfSome (resolved earlier next steps) (HoldsIn value))
        → IfSome (option_and_then (λ antecedent. if can_resolve set step.1 (has_literal antecedent) then resolved earlier (resolvent set step.1 (has_literal antecedent)) steps else None) o) (HoldsIn value)
    by_clause None e rest = tt
    by_clause (Some clause) e rest =
        by_test (can_resolve set step.1 (has_literal clause)) _
        (rest _ (resolvent_holds value set (has_literal clause) step.1 h (true_literal value clause (here clause e))))

chain_holds : (value : ℕ → Bool) (earlier : List (List ℤ)) (line : DerivationLine) → IsTrueAt value earlier line.first → All (λ (step : ℕ × ℤ). IsTrueAt value earlier step.0) line.steps → IfSome (chain_of earlier line) (HoldsIn value)
chain_holds value earlier line first steps = by_clause (numbered earlier line.first) refl
  where
    by_clause : (o : Option (List ℤ)) → numbered earlier line.first ≡ o → IfSome (option_and_then (λ clause. resolved earlier (has_literal clause) line.steps) o) (HoldsIn value)
    by_clause None e = tt
    by_clause (Some clause) e = resolved_holds value earlier (has_literal clause) line.steps steps (true_literal value clause (first clause e))

pub line_true : (value : ℕ → Bool) (earlier : List (List ℤ)) (line : DerivationLine) → IsTrueAt value earlier line.first → All (λ (step : ℕ × ℤ). IsTrueAt value earlier step.0) line.steps → IsRight earlier line → is_true_clause value line.clause ≡ true
unfolding HoldsIn
line_true value earlier line first steps right = by_set (chain_of earlier line) (chain_holds value earlier line first steps) right
  where
    by_set : (o : Option (ℤ → Bool)) → IfSome o (HoldsIn value) → IsSomeAnd o (λ set. (x : ℤ) → set x ≡ has_literal line.clause x) → is_true_clause value line.clause ≡ true
    by_set None h same = absurd same
    by_set (Some set) h same = true_clause value line.clause h.0 (sym (same h.0) ∙ h.1) h.2
