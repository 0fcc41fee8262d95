-- Where a derivation checks, no assignment satisfies the formula; and clauses are sets.
use Rattle.std.proofs.Common.{◌≡◌, ℕ, zero, suc, ◌-◌, ◌<◌, ◌≤◌, Bool, true, false, ◌||◌, List, [], ◌∷◌, length, take, map, get_or, refl, sym, ◌∙◌, ap, arith, Option, None, Some, add-one}
use Rattle.std.specs.Prelude.{ℤ, pos, negsuc, neg_ℤ, not, ◌&&◌, slice_get, option_and_then, IfSome, IsSomeAnd, if◌then◌else◌}
use Rattle.std.specs.Ordering.{int_eq}
use Rattle.std.specs.List.{list_all}
use Rattle.std.proofs.lemmas.List.Folds.{list_all-append, list_all-map, list_all_more}
use Rattle.std.proofs.lemmas.List.{take_all}
use Rattle.std.proofs.lemmas.Option.{slice_get-get_or}
use Rattle.cnf.specs.declared.formula.Formula.{Formula}
use Rattle.cnf.specs.declared.derivation.DerivationLine.{DerivationLine}
use Rattle.cnf.specs.declared.derivation.Derivation.{Derivation}
use Rattle.cnf.specs.Clauses.{literal_key, RisesFrom, has_literal}
use Rattle.cnf.specs.Formulas.{is_true_literal, is_true_clause, Satisfies}
use Rattle.cnf.specs.Resolution.{can_resolve, resolvent}
use Rattle.cnf.specs.Checks.{numbered, resolved, chain_of, IsRight, clauses_before, IsRightAt, Checks}
use Rattle.cnf.proofs.ClauseLaws.{same_key, same_literal, equal_literal, literal_in_clause}

-- ---- clauses as sets

own_literal : (x : ℤ) (xs : List ℤ) → has_literal (x ∷ xs) x ≡ true
own_literal x xs = rw (equal_literal x x refl) refl

first_or_later : (low : ℕ) (x : ℤ) (xs : List ℤ) (z : ℤ) → RisesFrom low (x ∷ xs) → has_literal (x ∷ xs) z ≡ true → literal_key x ≤ literal_key z
first_or_later low x xs z r h = by_test (int_eq x z) refl h
  where
    by_test : (b : Bool) → int_eq x z ≡ b → (b || has_literal xs z) ≡ true → literal_key x ≤ literal_key z
    by_test true e g = let same : x ≡ z = same_literal x z e in omega (arith, ap literal_key same)
    by_test false e g = omega (arith, (literal_in_clause (literal_key x) xs z r.2 g).0)

not_later : (low : ℕ) (x : ℤ) (xs : List ℤ) → RisesFrom low (x ∷ xs) → has_literal xs x ≡ false
not_later low x xs r = by_test (has_literal xs x) refl
  where
    by_test : (b : Bool) → has_literal xs x ≡ b → has_literal xs x ≡ false
    by_test true e = absurd (omega (arith, (literal_in_clause (literal_key x) xs x r.2 e).0))
    by_test false e = e

same_rest : (low other : ℕ) (x y : ℤ) (xs ys : List ℤ) → x ≡ y → RisesFrom low (x ∷ xs) → RisesFrom other (y ∷ ys)
    → ((z : ℤ) → has_literal (x ∷ xs) z ≡ has_literal (y ∷ ys) z) → (z : ℤ) → has_literal xs z ≡ has_literal ys z
same_rest low other x y xs ys same r s h z = by_test (int_eq x z) refl (h z)
  where
    none : (w : ℤ) → w ≡ z → (b : Bool) (k : ℕ) (ws : List ℤ) → RisesFrom k (w ∷ ws) → has_literal ws z ≡ false
    none w e b k ws r = rw (← e) (not_later k w ws r)

    by_test : (b : Bool) → int_eq x z ≡ b → (int_eq x z || has_literal xs z) ≡ (int_eq y z || has_literal ys z) → has_literal xs z ≡ has_literal ys z
    by_test true e g =
        let at : x ≡ z = same_literal x z e in
        none x at true low xs r ∙ sym (none y (sym same ∙ at) true other ys s)
    by_test false e g =
        let other : int_eq y z ≡ false = rw (← same) e in
        rw (e, other) at g

pub same_clauses : (low other : ℕ) (c d : List ℤ) → RisesFrom low c → RisesFrom other d → ((z : ℤ) → has_literal c z ≡ has_literal d z) → c ≡ d
same_clauses low other [] [] r s h = refl
same_clauses low other [] (y ∷ ys) r s h = let no : false ≡ true = h y ∙ own_literal y ys in absurd cc
same_clauses low other (x ∷ xs) [] r s h = let no : false ≡ true = sym (h x) ∙ own_literal x xs in absurd cc
same_clauses low other (x ∷ xs) (y ∷ ys) r s h =
    let up = first_or_later low x xs y r (h y ∙ own_literal y ys) in
    let down = first_or_later other y ys x s (sym (h x) ∙ own_literal x xs) in
    let same : x ≡ y = same_key x y (omega arith) in
    let rest = same_clauses (literal_key x) (literal_key y) xs ys r.2 s.2 (same_rest low other x y xs ys same r s h) in
    cc

-- ---- a resolvent follows from its two clauses

-- a set has a literal that the assignment makes true
HoldsIn : (ℕ → Bool) → (ℤ → Bool) → Type 0
HoldsIn value set = (x : ℤ) × (set x ≡ true) × (is_true_literal value x ≡ true)

or_right : (a b : Bool) → b ≡ true → (a || b) ≡ true
or_right true b e = refl
or_right false b e = e

opposite : (value : ℕ → Bool) (x : ℤ) → is_true_literal value x ≡ true → is_true_literal value (neg_ℤ x) ≡ true → ⊥
opposite value (pos zero) e f = absurd cc
opposite value (pos (suc n)) e f = let no : false ≡ true = sym (ap not e) ∙ f in absurd cc
opposite value (negsuc n) e f = let no : false ≡ true = sym (ap not f) ∙ e in absurd cc

true_literal : (value : ℕ → Bool) (clause : List ℤ) → is_true_clause value clause ≡ true → HoldsIn value (has_literal clause)
unfolding HoldsIn
true_literal value [] e = absurd cc
true_literal value (y ∷ ys) e = by_test (is_true_literal value y) refl e (true_literal value ys)
  where
    by_test : (b : Bool) → is_true_literal value y ≡ b → (b || is_true_clause value ys) ≡ true → (is_true_clause value ys ≡ true → HoldsIn value (has_literal ys))
        → HoldsIn value (has_literal (y ∷ ys))
    by_test true f g rest = (y, own_literal y ys, f)
    by_test false f g rest = let found = rest g in (found.0, or_right (int_eq y found.0) (has_literal ys found.0) found.1, found.2)

true_clause : (value : ℕ → Bool) (clause : List ℤ) (x : ℤ) → has_literal clause x ≡ true → is_true_literal value x ≡ true → is_true_clause value clause ≡ true
true_clause value [] x e f = absurd cc
true_clause value (y ∷ ys) x e f = by_test (int_eq y x) refl e (λ g. true_clause value ys x g f)
  where
    by_test : (b : Bool) → int_eq y x ≡ b → (b || has_literal ys x) ≡ true → (has_literal ys x ≡ true → is_true_clause value ys ≡ true) → is_true_clause value (y ∷ ys) ≡ true
    by_test true g h rest = let same : y ≡ x = same_literal y x g in rw (same, f) refl
    by_test false g h rest = or_right (is_true_literal value y) (is_true_clause value ys) (rest h)

resolvent_holds : (value : ℕ → Bool) (left right : ℤ → Bool) (pivot : ℤ) → HoldsIn value left → HoldsIn value right → HoldsIn value (resolvent left pivot right)
unfolding HoldsIn
resolvent_holds value left right pivot l r = by_left (int_eq l.0 pivot) refl
  where
    by_right : (b : Bool) → int_eq r.0 (neg_ℤ pivot) ≡ b → l.0 ≡ pivot → HoldsIn value (resolvent left pivot right)
    by_right true e at =
        let other : r.0 ≡ neg_ℤ pivot = same_literal r.0 (neg_ℤ pivot) e in
        absurd (opposite value pivot (rw at at l.2) (rw other at r.2))
    by_right false e at = (r.0, or_right (left r.0 && not (int_eq r.0 pivot)) _ (rw (r.1, e) refl), r.2)

    by_left : (b : Bool) → int_eq l.0 pivot ≡ b → HoldsIn value (resolvent left pivot right)
    by_left true e = by_right (int_eq r.0 (neg_ℤ pivot)) refl (same_literal l.0 pivot e)
    by_left false e = (l.0, rw (l.1, e) refl, l.2)

-- ---- a chain, a line, all lines

-- the assignment makes all these clauses true
AllTrue : (ℕ → Bool) → List (List ℤ) → Type 0
AllTrue value clauses = list_all (is_true_clause value) clauses ≡ true

pub all_at : {X : Type 0} (p : X → Bool) (xs : List X) (i : ℕ) (x : X) → list_all p xs ≡ true → slice_get xs i ≡ Some x → p x ≡ true
all_at p [] i x all e = absurd cc
all_at p (y ∷ ys) zero x all e = let same : y ≡ x = cc in by_test (p y) (ap p same) all
  where
    by_test : (b : Bool) → b ≡ p x → (b && list_all p ys) ≡ true → p x ≡ true
    by_test true f g = sym f
    by_test false f g = absurd cc
all_at p (y ∷ ys) (suc i) x all e = all_at p ys i x (by_test (p y) all) e
  where
    by_test : (b : Bool) → (b && list_all p ys) ≡ true → list_all p ys ≡ true
    by_test true g = g
    by_test false g = absurd cc

true_numbered : (value : ℕ → Bool) (earlier : List (List ℤ)) (n : ℕ) (clause : List ℤ) → AllTrue value earlier → numbered earlier n ≡ Some clause → is_true_clause value clause ≡ true
unfolding AllTrue
true_numbered value earlier zero clause all e = absurd cc
true_numbered value earlier (suc n) clause all e = all_at (is_true_clause value) earlier n clause all e

resolved_holds : (value : ℕ → Bool) (earlier : List (List ℤ)) (set : ℤ → Bool) (steps : List (ℕ × ℤ)) → AllTrue value earlier → HoldsIn value set
    → IfSome (resolved earlier set steps) (HoldsIn value)
resolved_holds value earlier set [] all h = h
resolved_holds value earlier set (step ∷ steps) all h = by_clause (numbered earlier step.0) refl (λ next. resolved_holds value earlier next steps all)
  where
    by_test : (b : Bool) (next : Option (ℤ → Bool)) → IfSome next (HoldsIn value) → IfSome (if b then next else None) (HoldsIn value)
    by_test true next f = f
    by_test false next f = tt

    by_clause : (o : Option (List ℤ)) → numbered earlier step.0 ≡ o → ((next : ℤ → Bool) → HoldsIn value next → IfSome (resolved earlier next steps) (HoldsIn value))
        → IfSome (option_and_then (λ antecedent. if can_resolve set step.1 (has_literal antecedent) then resolved earlier (resolvent set step.1 (has_literal antecedent)) steps else None) o) (HoldsIn value)
    by_clause None e rest = tt
    by_clause (Some clause) e rest =
        by_test (can_resolve set step.1 (has_literal clause)) _
        (rest _ (resolvent_holds value set (has_literal clause) step.1 h (true_literal value clause (true_numbered value earlier step.0 clause all e))))

chain_holds : (value : ℕ → Bool) (earlier : List (List ℤ)) (line : DerivationLine) → AllTrue value earlier → IfSome (chain_of earlier line) (HoldsIn value)
chain_holds value earlier line all = by_clause (numbered earlier line.first) refl
  where
    by_clause : (o : Option (List ℤ)) → numbered earlier line.first ≡ o → IfSome (option_and_then (λ clause. resolved earlier (has_literal clause) line.steps) o) (HoldsIn value)
    by_clause None e = tt
    by_clause (Some clause) e = resolved_holds value earlier (has_literal clause) line.steps all (true_literal value clause (true_numbered value earlier line.first clause all e))

right_line : (value : ℕ → Bool) (earlier : List (List ℤ)) (line : DerivationLine) → AllTrue value earlier → IsRight earlier line → is_true_clause value line.clause ≡ true
unfolding HoldsIn
right_line value earlier line all right = by_set (chain_of earlier line) (chain_holds value earlier line all) right
  where
    by_set : (o : Option (ℤ → Bool)) → IfSome o (HoldsIn value) → IsSomeAnd o (λ set. (x : ℤ) → set x ≡ has_literal line.clause x) → is_true_clause value line.clause ≡ true
    by_set None h same = absurd same
    by_set (Some set) h same = true_clause value line.clause h.0 (sym (same h.0) ∙ h.1) h.2

-- some line
blank : DerivationLine
blank = record { clause = []; first = 0; steps = [] }

true_before : (value : ℕ → Bool) (formula : Formula) (derivation : Derivation) (k : ℕ) → Satisfies value formula
    → list_all (λ line. is_true_clause value line.clause) (take k derivation.lines) ≡ true → AllTrue value (clauses_before formula derivation k)
unfolding AllTrue
true_before value formula derivation k satisfied all =
    list_all-append (is_true_clause value) formula.clauses (map (λ line. line.clause) (take k derivation.lines))
    ∙ rw (satisfied, list_all-map (is_true_clause value) (λ line. line.clause) (take k derivation.lines), all) refl

true_lines : (value : ℕ → Bool) (formula : Formula) (derivation : Derivation) → Satisfies value formula
    → ((k : ℕ) → k < length derivation.lines → IsRightAt formula derivation k)
    → (k : ℕ) → k ≤ length derivation.lines → list_all (λ line. is_true_clause value line.clause) (take k derivation.lines) ≡ true
true_lines value formula derivation satisfied right zero h = refl
true_lines value formula derivation satisfied right (suc k) h =
    let before = true_lines value formula derivation satisfied right k (omega arith) in
    let here : slice_get derivation.lines k ≡ Some (get_or derivation.lines k blank) = slice_get-get_or derivation.lines k blank (omega arith) in
    let is_right = rw here at (right k (omega arith)) in
    let more = list_all_more (λ line. is_true_clause value line.clause) derivation.lines k blank (omega arith) in
    rw (← add-one) (more ∙ rw (before, right_line value (clauses_before formula derivation k) (get_or derivation.lines k blank) (true_before value formula derivation k satisfied before) is_right) refl)

pub no_model : (formula : Formula) (derivation : Derivation) (value : ℕ → Bool) → Checks formula derivation → Satisfies value formula → ⊥
no_model formula derivation value checks satisfied = by_last (slice_get derivation.lines (length derivation.lines - 1)) refl checks.1
  where
    all : list_all (λ line. is_true_clause value line.clause) derivation.lines ≡ true
    all = rw (take_all (length derivation.lines) derivation.lines (omega arith)) at (true_lines value formula derivation satisfied checks.0 (length derivation.lines) (omega arith))

    by_last : (o : Option DerivationLine) → slice_get derivation.lines (length derivation.lines - 1) ≡ o → IsSomeAnd o (λ line. line.clause ≡ []) → ⊥
    by_last None e f = f
    by_last (Some line) e f =
        let one = all_at (λ line. is_true_clause value line.clause) derivation.lines (length derivation.lines - 1) line all e in
        let no : false ≡ true = rw f at one in
        absurd cc
