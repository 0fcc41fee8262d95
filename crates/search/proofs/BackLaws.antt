-- Going back along a trail from a conflict.
use Rattle.std.proofs.Common.{◌≡◌, ◌⊎◌, ℕ, zero, suc, ◌+◌, ◌*◌, ◌<◌, ◌≤◌, ◌^◌, Bool, true, false, ◌||◌, eqb, List, [], ◌∷◌, ◌++◌, length, take, get_or, refl, sym, ◌∙◌, ap, arith, Option, None, Some}
use mathlib.Core.Logic.{inl, inr}
use Rattle.std.specs.Prelude.{ℤ, pos, negsuc, neg_ℤ, not, ◌&&◌, nat_lt, slice_get, option_and_then, IsSomeAnd, IsTrue, if◌then◌else◌}
use Rattle.std.specs.List.{AllByRecursion, IsDistinct, list_all}
use Rattle.std.specs.Ordering.{int_eq}
use Rattle.std.proofs.lemmas.Bool.Decides.{Decides-eqb, Decides-ltb}
use Rattle.std.proofs.lemmas.List.{take_more}
use Rattle.std.proofs.lemmas.List.Folds.{list_all-append, list_any-append}
use Rattle.std.proofs.lemmas.Map.Keys.{IsDistinct-head, IsDistinct-tail}
use Rattle.cnf.specs.Checks.{numbered, resolved}
use Rattle.cnf.specs.Clauses.{IsLiteral, has_literal, literal_key}
use Rattle.cnf.specs.Resolution.{can_resolve, resolvent}
use Rattle.cnf.proofs.ClauseLaws.{same_literal, equal_literal}
use Rattle.cnf.specs.literal_marks.Marks.{has_places}
use Rattle.cnf.specs.declared.literal_marks.places.Places.TheVariants.{ByKey}
use Rattle.search.specs.declared.trail.Entry.{Entry}
use Rattle.search.specs.Laws.{is_over}
use Rattle.search.specs.Chains.{IsBack}
use Rattle.search.specs.Machine.{IsOver, is_implied_by, is_reason, is_true}
use Rattle.search.specs.Sound.{Implies}
use Rattle.search.specs.Trails.{IsTrail, are_over, place, places}
use Rattle.search.proofs.KeptLaws.{and_left, and_right, is_over-tells}

-- ---- literals

pub negated_twice : (x : ℤ) → neg_ℤ (neg_ℤ x) ≡ x
negated_twice (pos zero) = refl
negated_twice (pos (suc n)) = refl
negated_twice (negsuc n) = refl

pub negated-over : (n : ℕ) (x : ℤ) → IsOver n x → IsOver n (neg_ℤ x)
negated-over n (pos zero) h = absurd (omega (arith, h.0))
negated-over n (pos (suc k)) h = (omega arith, omega (arith, h.1))
negated-over n (negsuc k) h = (omega arith, omega (arith, h.1))

pub literal-over : (n : ℕ) (x : ℤ) → n ≤ 2 ^ 30 → IsOver n x → IsLiteral x
literal-over n x small h = (omega (arith, h.0), omega (arith, h.1))

pub same_by_negation : (x y : ℤ) → int_eq x (neg_ℤ y) ≡ true → y ≡ neg_ℤ x
same_by_negation x y e = sym (negated_twice y) ∙ ap neg_ℤ (sym (same_literal x (neg_ℤ y) e))

pub or_cases : (a b : Bool) → (a || b) ≡ true → (a ≡ true) ⊎ (b ≡ true)
or_cases true b e = inl refl
or_cases false b e = inr e

or_front : (a b : Bool) → a ≡ true → (a || b) ≡ true
or_front true b e = refl
or_front false b e = absurd cc

pub or_behind : (a b : Bool) → b ≡ true → (a || b) ≡ true
or_behind true b e = refl
or_behind false b e = e

-- ---- trails and their beginnings

pub some_entry : (trail : List Entry) (cut : ℕ) (P : Entry → Type 0) → IsSomeAnd (slice_get trail cut) P → (e : Entry) × (slice_get trail cut ≡ Some e) × P e
some_entry trail cut P h = by_found (slice_get trail cut) refl h
  where
    by_found : (found : Option Entry) → slice_get trail cut ≡ found → IsSomeAnd found P → (e : Entry) × (slice_get trail cut ≡ Some e) × P e
    by_found None f g = absurd g
    by_found (Some e) f g = (e, f, g)

pub at_entry : (trail : List Entry) (i : ℕ) (e : Entry) → slice_get trail i ≡ Some e → (i < length trail) × (get_or trail i e ≡ e)
at_entry [] i e h = absurd cc
at_entry (f ∷ trail) zero e h = let same : f ≡ e = cc in (omega arith, same)
at_entry (f ∷ trail) (suc i) e h = let rest = at_entry trail i e h in (omega (arith, rest.0), rest.1)

pub true_next : (trail : List Entry) (i : ℕ) (e : Entry) (x : ℤ) → slice_get trail i ≡ Some e → is_true (take (i + 1) trail) x ≡ (is_true (take i trail) x || int_eq e.literal x)
true_next trail i e x h =
    let at = at_entry trail i e h in
    ap (λ t. is_true t x) (take_more trail i e at.0) ∙ list_any-append (λ f. int_eq f.literal x) (take i trail) (get_or trail i e ∷ []) ∙ rw at.1 (last (is_true (take i trail) x) (int_eq e.literal x))
  where
    last : (a b : Bool) → (a || (b || false)) ≡ (a || b)
    last true b = refl
    last false true = refl
    last false false = refl

pub true_later : (trail : List Entry) (i j : ℕ) (x : ℤ) → i ≤ j → is_true (take i trail) x ≡ true → is_true (take j trail) x ≡ true
true_later trail zero j x h e = absurd cc
true_later [] (suc i) j x h e = absurd cc
true_later (f ∷ trail) (suc i) zero x h e = absurd (omega arith)
true_later (f ∷ trail) (suc i) (suc j) x h e = by_test (int_eq f.literal x) e (true_later trail i j x (omega arith))
  where
    by_test : (b : Bool) → (b || is_true (take i trail) x) ≡ true → (is_true (take i trail) x ≡ true → is_true (take j trail) x ≡ true) → (b || is_true (take j trail) x) ≡ true
    by_test true g rest = refl
    by_test false g rest = rest g

pub true_in_all : (trail : List Entry) (i : ℕ) (x : ℤ) → is_true (take i trail) x ≡ true → is_true trail x ≡ true
true_in_all [] i x e = by_length i e
  where
    by_length : (j : ℕ) → is_true (take j []) x ≡ true → is_true [] x ≡ true
    by_length zero g = g
    by_length (suc j) g = g
true_in_all (f ∷ trail) zero x e = absurd cc
true_in_all (f ∷ trail) (suc i) x e = by_test (int_eq f.literal x) e (true_in_all trail i x)
  where
    by_test : (b : Bool) → (b || is_true (take i trail) x) ≡ true → (is_true (take i trail) x ≡ true → is_true trail x ≡ true) → (b || is_true trail x) ≡ true
    by_test true g rest = refl
    by_test false g rest = rest g

pub over_at : (n : ℕ) (trail : List Entry) (i : ℕ) (e : Entry) → are_over n trail ≡ true → slice_get trail i ≡ Some e → IsOver n e.literal
over_at n [] i e a h = absurd cc
over_at n (f ∷ trail) zero e a h = let same : f ≡ e = cc in rw (← same) (is_over-tells n f.literal (and_left _ _ a))
over_at n (f ∷ trail) (suc i) e a h = over_at n trail i e (and_right _ _ a) h

pub true-over : (n : ℕ) (trail : List Entry) (x : ℤ) → are_over n trail ≡ true → is_true trail x ≡ true → IsOver n x
true-over n [] x a h = absurd cc
true-over n (e ∷ trail) x a h = by_test (int_eq e.literal x) refl h (true-over n trail x (and_right _ _ a))
  where
    by_test : (b : Bool) → int_eq e.literal x ≡ b → (b || is_true trail x) ≡ true → (is_true trail x ≡ true → IsOver n x) → IsOver n x
    by_test true f g rest = let same : e.literal ≡ x = same_literal e.literal x f in rw (← same) (is_over-tells n e.literal (and_left _ _ a))
    by_test false f g rest = rest g

same_place : (x y : ℤ) (n : ℕ) → IsOver n y → (x ≡ y) ⊎ (x ≡ neg_ℤ y) → place x ≡ place y
same_place x y n h (inl e) = ap place e
same_place x (pos zero) n h (inr e) = absurd (omega (arith, h.0))
same_place x (pos (suc k)) n h (inr e) = ap place e
same_place x (negsuc k) n h (inr e) = ap place e

apart : (n : ℕ) (trail : List Entry) (p : ℕ) (i : ℕ) (e : Entry) → AllByRecursion (λ q. eqb p q ≡ false) (places trail) → slice_get trail i ≡ Some e → eqb p (place e.literal) ≡ false
apart n [] p i e a h = absurd cc
apart n (f ∷ trail) p zero e a h = let same : f ≡ e = cc in rw (← same) a.0
apart n (f ∷ trail) p (suc i) e a h = apart n trail p i e a.1 h

-- the entries before one are of other variables
pub free_before : (n : ℕ) (trail : List Entry) (i : ℕ) (e : Entry) (x : ℤ) → are_over n trail ≡ true → IsDistinct eqb (places trail) → slice_get trail i ≡ Some e
    → (x ≡ e.literal) ⊎ (x ≡ neg_ℤ e.literal) → is_true (take i trail) x ≡ false
free_before n [] i e x a d h same = absurd cc
free_before n (f ∷ trail) zero e x a d h same = refl
free_before n (f ∷ trail) (suc i) e x a d h same =
    by_test (int_eq f.literal x) refl (free_before n trail i e x (and_right _ _ a) (IsDistinct-tail eqb _ _ d) h same)
  where
    other : eqb (place f.literal) (place e.literal) ≡ false
    other = apart n trail (place f.literal) i e (IsDistinct-head eqb _ _ d) h

    by_test : (b : Bool) → int_eq f.literal x ≡ b → is_true (take i trail) x ≡ false → (b || is_true (take i trail) x) ≡ false
    by_test false g rest = rest
    by_test true g rest =
        let at : f.literal ≡ x = same_literal f.literal x g in
        let own : place x ≡ place e.literal = same_place x e.literal n (over_at n trail i e (and_right _ _ a) h) same in
        let yes : eqb (place f.literal) (place e.literal) ≡ true = (Decides-eqb (place f.literal) (place e.literal)).1 (ap place at ∙ own) in
        let no : true ≡ false = sym yes ∙ other in
        absurd cc

pub true_at : (trail : List Entry) (p c : ℕ) (e : Entry) → p < c → slice_get trail p ≡ Some e → is_true (take c trail) e.literal ≡ true
true_at [] p c e h at = absurd cc
true_at (f ∷ trail) zero zero e h at = absurd (omega arith)
true_at (f ∷ trail) zero (suc c) e h at = let same : f ≡ e = cc in or_front _ _ (equal_literal f.literal e.literal (ap (λ g. g.literal) same))
true_at (f ∷ trail) (suc p) zero e h at = absurd (omega arith)
true_at (f ∷ trail) (suc p) (suc c) e h at = or_behind (int_eq f.literal e.literal) _ (true_at trail p c e (omega arith) at)

-- a later entry is of another variable
pub apart_later : (n : ℕ) (trail : List Entry) (p : ℕ) (e : Entry) → IsTrail n trail → slice_get trail p ≡ Some e → (c : ℕ) (d : Entry) → p < c → slice_get trail c ≡ Some d
    → int_eq (neg_ℤ d.literal) (neg_ℤ e.literal) ≡ false
apart_later n trail p e is at c d h there = by_test (int_eq (neg_ℤ d.literal) (neg_ℤ e.literal)) refl
  where
    by_test : (b : Bool) → int_eq (neg_ℤ d.literal) (neg_ℤ e.literal) ≡ b → int_eq (neg_ℤ d.literal) (neg_ℤ e.literal) ≡ false
    by_test false f = f
    by_test true f =
        let negations = same_literal (neg_ℤ d.literal) (neg_ℤ e.literal) f in
        let same : e.literal ≡ d.literal = sym (negated_twice e.literal) ∙ ap neg_ℤ (sym negations) ∙ negated_twice d.literal in
        let none = free_before n trail c d e.literal is.over is.distinct there (inl same) in
        let no : true ≡ false = sym (true_at trail p c e h at) ∙ none in
        absurd cc

-- ---- tables of marks by key

pub have_places : (n size : ℕ) (xs : List ℤ) → size ≡ 2 * n + 2 → list_all (is_over n) xs ≡ true → IsTrue (has_places ByKey size xs)
have_places n size [] e a = refl
have_places n size (x ∷ xs) e a =
    let own : IsOver n x = is_over-tells n x (and_left _ _ a) in
    let here : nat_lt (literal_key x) size ≡ true = (Decides-ltb (literal_key x) size).1 (omega (arith, own.1)) in
    rw here (have_places n size xs e (and_right _ _ a))

-- ---- chains

pub resolved_more : (clauses : List (List ℤ)) (first : ℤ → Bool) (steps : List (ℕ × ℤ)) (step : ℕ × ℤ) (clause : List ℤ) (set : ℤ → Bool) → numbered clauses step.0 ≡ Some clause
    → can_resolve set step.1 (has_literal clause) ≡ true → resolved clauses first steps ≡ Some set
    → resolved clauses first (steps ++ step ∷ []) ≡ Some (resolvent set step.1 (has_literal clause))
resolved_more clauses first [] step clause set named able e = let same : first ≡ set = cc in rw (same, named, able) refl
resolved_more clauses first (s ∷ steps) step clause set named able e = by_clause (numbered clauses s.0) e (λ next g. resolved_more clauses next steps step clause set named able g)
  where
    by_clause : (c : Option (List ℤ))
        → option_and_then (λ antecedent. if can_resolve first s.1 (has_literal antecedent) then resolved clauses (resolvent first s.1 (has_literal antecedent)) steps else None) c ≡ Some set
        → ((next : ℤ → Bool) → resolved clauses next steps ≡ Some set → resolved clauses next (steps ++ step ∷ []) ≡ Some (resolvent set step.1 (has_literal clause)))
        → option_and_then (λ antecedent. if can_resolve first s.1 (has_literal antecedent) then resolved clauses (resolvent first s.1 (has_literal antecedent)) (steps ++ step ∷ []) else None) c
        ≡ Some (resolvent set step.1 (has_literal clause))
    by_clause None g rest = absurd cc
    by_clause (Some c) g rest = by_test (can_resolve first s.1 (has_literal c)) g rest
      where
        by_test : (b : Bool) → (if b then resolved clauses (resolvent first s.1 (has_literal c)) steps else None) ≡ Some set
            → ((next : ℤ → Bool) → resolved clauses next steps ≡ Some set → resolved clauses next (steps ++ step ∷ []) ≡ Some (resolvent set step.1 (has_literal clause)))
            → (if b then resolved clauses (resolvent first s.1 (has_literal c)) (steps ++ step ∷ []) else None) ≡ Some (resolvent set step.1 (has_literal clause))
        by_test true q more = more (resolvent first s.1 (has_literal c)) q
        by_test false q more = absurd cc

-- an entry tells its reason, by its negation too
pub implied_at : (trail : List Entry) (i : ℕ) (e : Entry) (number : ℕ) → slice_get trail i ≡ Some e → e.reason ≡ Some number → is_implied_by trail number (neg_ℤ e.literal) ≡ true
implied_at [] i e number at r = absurd cc
implied_at (f ∷ trail) zero e number at r =
    let same : f ≡ e = cc in
    rw same (or_front _ _ (both (or_behind (int_eq e.literal (neg_ℤ e.literal)) _ (equal_literal e.literal (neg_ℤ (neg_ℤ e.literal)) (sym (negated_twice e.literal)))) own))
  where
    own : is_reason e.reason number ≡ true
    own = rw r ((Decides-eqb number number).1 refl)

    both : {a b : Bool} → a ≡ true → b ≡ true → (a && b) ≡ true
    both g h = rw (g, h) refl
implied_at (f ∷ trail) (suc i) e number at r = or_behind _ _ (implied_at trail i e number at r)

-- ---- one entry back

module _ (clauses : List (List ℤ)) (trail : List Entry) (first : List ℤ) where
  -- an entry whose negation isn't in the clause so far
  pub back_over : (p : ℕ) (e : Entry) (set : ℤ → Bool) (steps : List (ℕ × ℤ)) → slice_get trail p ≡ Some e → set (neg_ℤ e.literal) ≡ false
      → IsBack clauses trail first (p + 1) set steps → IsBack clauses trail first p set steps
  back_over p e set steps at none b = record {
    chain = b.chain;
    reasons = b.reasons;
    falses = λ y h. before y h (b.falses y h);
  }
    where
      before : (y : ℤ) → set y ≡ true → is_true (take (p + 1) trail) (neg_ℤ y) ≡ true → is_true (take p trail) (neg_ℤ y) ≡ true
      before y h f = by_side (or_cases _ _ (sym (true_next trail p e (neg_ℤ y) at) ∙ f))
        where
          by_side : (is_true (take p trail) (neg_ℤ y) ≡ true) ⊎ (int_eq e.literal (neg_ℤ y) ≡ true) → is_true (take p trail) (neg_ℤ y) ≡ true
          by_side (inl g) = g
          by_side (inr g) = let no : false ≡ true = sym none ∙ ap set (sym (same_by_negation e.literal y g)) ∙ h in absurd cc

  -- one that a clause implied
  pub back_implied : (p : ℕ) (e : Entry) (number : ℕ) (clause : List ℤ) (set next : ℤ → Bool) (steps : List (ℕ × ℤ)) → slice_get trail p ≡ Some e
      → set (neg_ℤ e.literal) ≡ true → e.reason ≡ Some number → numbered clauses number ≡ Some clause → Implies (take p trail) e.literal clause
      → ((x : ℤ) → next x ≡ resolvent set (neg_ℤ e.literal) (has_literal clause) x)
      → IsBack clauses trail first (p + 1) set steps → IsBack clauses trail first p next (steps ++ (number, neg_ℤ e.literal) ∷ [])
  back_implied p e number clause set next steps at own r named implies is b = record {
    chain =
        resolved_more clauses (has_literal first) steps (number, neg_ℤ e.literal) clause set named able b.chain
        ∙ ap Some (sym (λ i x. is x i));
    reasons = list_all-append (λ (step : ℕ × ℤ). is_implied_by trail step.0 step.1) steps _ ∙ rw (b.reasons, told) refl;
    falses = λ y h. by_side y (sides (set y) (not (int_eq y (neg_ℤ e.literal))) (has_literal clause y) (not (int_eq y (neg_ℤ (neg_ℤ e.literal)))) (sym (is y) ∙ h));
  }
    where
      able : can_resolve set (neg_ℤ e.literal) (has_literal clause) ≡ true
      able = rw (own, negated_twice e.literal, implies.here) refl

      told : is_implied_by trail number (neg_ℤ e.literal) ≡ true
      told = implied_at trail p e number at r

      sides : (a m c n : Bool) → ((a && m) || (c && n)) ≡ true → ((a ≡ true) × (m ≡ true)) ⊎ ((c ≡ true) × (n ≡ true))
      sides true true c n g = inl (refl, refl)
      sides true false true true g = inr (refl, refl)
      sides true false true false g = absurd cc
      sides true false false n g = absurd cc
      sides false m true true g = inr (refl, refl)
      sides false m true false g = absurd cc
      sides false m false n g = absurd cc

      no_equal : (x y : ℤ) → not (int_eq x y) ≡ true → x ≡ y → ⊥
      no_equal x y g same = let yes = equal_literal x y same in let no : not true ≡ true = rw yes at g in absurd cc

      before : (y : ℤ) → (y ≡ neg_ℤ e.literal → ⊥) → is_true (take (p + 1) trail) (neg_ℤ y) ≡ true → is_true (take p trail) (neg_ℤ y) ≡ true
      before y other f = by_test (or_cases _ _ (sym (true_next trail p e (neg_ℤ y) at) ∙ f))
        where
          by_test : (is_true (take p trail) (neg_ℤ y) ≡ true) ⊎ (int_eq e.literal (neg_ℤ y) ≡ true) → is_true (take p trail) (neg_ℤ y) ≡ true
          by_test (inl g) = g
          by_test (inr g) = absurd (other (same_by_negation e.literal y g))

      by_side : (y : ℤ) → ((set y ≡ true) × (not (int_eq y (neg_ℤ e.literal)) ≡ true)) ⊎ ((has_literal clause y ≡ true) × (not (int_eq y (neg_ℤ (neg_ℤ e.literal))) ≡ true))
          → is_true (take p trail) (neg_ℤ y) ≡ true
      by_side y (inl g) = before y (no_equal y (neg_ℤ e.literal) g.1) (b.falses y g.0)
      by_side y (inr g) = implies.others y g.0 (λ same. no_equal y (neg_ℤ (neg_ℤ e.literal)) g.1 (same ∙ sym (negated_twice e.literal)))

  -- the same by the reason that the trail tells
  pub back_by_reason : (p : ℕ) (e : Entry) (number : ℕ) (set next : ℤ → Bool) (steps : List (ℕ × ℤ)) → slice_get trail p ≡ Some e
      → set (neg_ℤ e.literal) ≡ true → e.reason ≡ Some number → IsSomeAnd (numbered clauses number) (Implies (take p trail) e.literal)
      → ((clause : List ℤ) → numbered clauses number ≡ Some clause → (x : ℤ) → next x ≡ resolvent set (neg_ℤ e.literal) (has_literal clause) x)
      → IsBack clauses trail first (p + 1) set steps → IsBack clauses trail first p next (steps ++ (number, neg_ℤ e.literal) ∷ [])
  back_by_reason p e number set next steps at own r told gives b = by_clause (numbered clauses number) refl told
    where
      by_clause : (found : Option (List ℤ)) → numbered clauses number ≡ found → IsSomeAnd found (Implies (take p trail) e.literal)
          → IsBack clauses trail first p next (steps ++ (number, neg_ℤ e.literal) ∷ [])
      by_clause None f g = absurd g
      by_clause (Some clause) f g = back_implied p e number clause set next steps at own r f g (gives clause f) b
