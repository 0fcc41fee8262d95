-- What a conflict teaches.
use Rattle.std.proofs.Common.{◌≡◌, ◌⊎◌, ℕ, zero, suc, ◌+◌, ◌<◌, ◌≤◌, ◌^◌, Bool, true, false, ◌||◌, List, [], ◌∷◌, ◌++◌, take, refl, sym, ◌∙◌, ap, arith, None, Some}
use mathlib.Core.Logic.{inl, inr}
use mathlib.Core.Path.{subst}
use Rattle.std.specs.Prelude.{ℤ, neg_ℤ, not, ◌&&◌, slice_get, All}
use Rattle.std.specs.Ordering.{int_eq}
use Rattle.std.proofs.lemmas.List.Folds.{list_any-append}
use Rattle.cnf.specs.Checks.{numbered}
use Rattle.cnf.specs.Clauses.{IsClause, IsLiteral, has_literal}
use Rattle.cnf.proofs.ClauseLaws.{equal_literal, same_literal}
use Rattle.search.specs.declared.chain.Chain.{Chain}
use Rattle.search.specs.declared.landing.Landing.{Landing}
use Rattle.search.specs.declared.trail.Entry.{Entry}
use Rattle.search.specs.Chains.{AreFalseOthers, IsAdded, IsBack, IsGoing, IsMarkedAt, IsReach}
use Rattle.search.specs.Lessons.{AreFalseBut, IsLanding, IsLatest, IsLesson}
use Rattle.search.specs.Machine.{IsOver, is_true, unit_of}
use Rattle.search.specs.Trails.{IsTrail}
use Rattle.search.proofs.BackLaws.{literal-over, negated-over, negated_twice, or_behind, or_cases, true-over, true_in_all, true_next}
use Rattle.search.proofs.ChainLaws.{marked_still, not_before}
use Rattle.search.proofs.LookLaws.{all_but_one}

-- ---- the clause that is false

pub first_marks : (old next has : Bool) → old ≡ false → next ≡ (old || (has && true)) → next ≡ has
first_marks true next has clear gives = absurd cc
first_marks false next true clear gives = gives
first_marks false next false clear gives = gives

pub first_falses : (trail : List Entry) (clause : List ℤ) (reach : ℕ) → IsReach trail clause reach → AreFalseOthers trail clause None
first_falses trail clause reach r y has other = true_in_all trail reach (neg_ℤ y) (r.falses y has)

pub going_begins : (trail : List Entry) (clause : List ℤ) (reach : ℕ) (set next : ℤ → Bool) (before after : Chain) → IsReach trail clause reach → ((x : ℤ) → set x ≡ false)
    → ((x : ℤ) → next x ≡ has_literal clause x) → before.found.items ≡ [] → before.low + 1 ≡ reach → before.start < reach → IsAdded trail set before next after → IsGoing trail next reach after
going_begins trail clause reach set next before after r clear is none last inside added = record {
  gathered = added.gathers record {
    found = λ y. ap (λ xs. has_literal xs y) none ∙ rw (clear y) refl;
    none = λ y own h. let no : true ≡ false = sym own ∙ clear y in absurd cc;
    inside = omega (arith, last, inside);
  };
  low = by_side added.low;
  below = below added.low;
}
  where
    by_side : (after.low ≡ before.low) ⊎ ((after.low < before.low) × IsMarkedAt trail next after.low) → IsMarkedAt trail next after.low
    by_side (inl h) = rw h (marked_still trail (has_literal clause) next before.low (λ y own. is y ∙ own) (r.last before.low (sym last)))
    by_side (inr h) = h.1

    below : (after.low ≡ before.low) ⊎ ((after.low < before.low) × IsMarkedAt trail next after.low) → after.low < reach
    below (inl h) = omega (arith, h, last)
    below (inr h) = let lower = h.0 in omega (arith, lower, last)

-- ---- nothing is left

pub refuting_clear : (clauses : List (List ℤ)) (trail : List Entry) (first : List ℤ) (set : ℤ → Bool) (steps : List (ℕ × ℤ)) → IsBack clauses trail first 0 set steps → (x : ℤ) → set x ≡ false
refuting_clear clauses trail first set steps b x = by_value (set x) refl
  where
    by_value : (v : Bool) → set x ≡ v → set x ≡ false
    by_value false f = f
    by_value true f = let no : false ≡ true = b.falses x f in absurd cc

pub lesson_refutes : (clauses : List (List ℤ)) (trail : List Entry) (conflict : ℕ) (first clause : List ℤ) (set : ℤ → Bool) (steps : List (ℕ × ℤ)) → numbered clauses conflict ≡ Some first
    → IsBack clauses trail first 0 set steps → IsClause clause → ((x : ℤ) → has_literal clause x ≡ false)
    → IsLesson clauses trail conflict record { clause = clause; first = conflict; steps = steps } None
lesson_refutes clauses trail conflict first clause set steps named b rises none = record {
  first = refl;
  right = rw (named, b.chain) (λ x. refuting_clear clauses trail first set steps b x ∙ sym (none x));
  reasons = b.reasons;
  landing = empty clause none;
  rises = rises;
}
  where
    empty : (xs : List ℤ) → ((x : ℤ) → has_literal xs x ≡ false) → xs ≡ []
    empty [] all = refl
    empty (x ∷ xs) all = let yes : has_literal (x ∷ xs) x ≡ true = rw (equal_literal x x refl) refl in let no : true ≡ false = sym yes ∙ all x in absurd cc

-- ---- one literal is left

module _ (n : ℕ) (trail : List Entry) (kept : IsTrail n trail) (set : ℤ → Bool) (chain : Chain) (going : IsGoing trail set (chain.low + 1) chain) (clauses : List (List ℤ)) (first : List ℤ) (steps : List (ℕ × ℤ))
    (back : IsBack clauses trail first (chain.low + 1) set steps) (e : Entry) (at : slice_get trail chain.low ≡ Some e) (start : ℕ) (from : chain.start ≡ start) where
  differ : (b : Bool) → b ≡ true → b ≡ false → ⊥
  differ b f g = let no : true ≡ false = sym f ∙ g in absurd cc

  pub left_in : set (neg_ℤ e.literal) ≡ true
  left_in = rw at at going.low

  pub left_free : (k : ℕ) → k ≤ start → is_true (take k trail) (neg_ℤ (neg_ℤ e.literal)) ≡ false
  left_free k low = let inside = going.gathered.inside in not_before n trail chain.low k e (neg_ℤ (neg_ℤ e.literal)) kept at (omega (arith, low, inside, from)) (inl (negated_twice e.literal))

  left_open : (k : ℕ) → k ≤ start → is_true (take k trail) (neg_ℤ e.literal) ≡ false
  left_open k low = let inside = going.gathered.inside in not_before n trail chain.low k e (neg_ℤ e.literal) kept at (omega (arith, low, inside, from)) (inr refl)

  pub others_false : AreFalseBut (take start trail) set (neg_ℤ e.literal)
  others_false y own other = ap (λ k. is_true (take k trail) (neg_ℤ y)) (sym from) ∙ going.gathered.none y own (by_side (or_cases _ _ (sym (true_next trail chain.low e (neg_ℤ y) at) ∙ back.falses y own)))
    where
      by_side : (is_true (take chain.low trail) (neg_ℤ y) ≡ true) ⊎ (int_eq e.literal (neg_ℤ y) ≡ true) → is_true (take chain.low trail) (neg_ℤ y) ≡ true
      by_side (inl h) = h
      by_side (inr h) =
          let same : y ≡ neg_ℤ e.literal = sym (negated_twice y) ∙ ap neg_ℤ (sym (same_literal e.literal (neg_ℤ y) h)) in
          absurd (differ _ (equal_literal y (neg_ℤ e.literal) same) other)

  -- the set is what was found and the one literal
  pub left_set : (y : ℤ) → has_literal (chain.found.items ++ neg_ℤ e.literal ∷ []) y ≡ set y
  left_set y =
      list_any-append (λ z. int_eq z y) chain.found.items (neg_ℤ e.literal ∷ [])
      ∙ rw (going.gathered.found y, from) (by_test (int_eq (neg_ℤ e.literal) y) refl (set y) refl (is_true (take start trail) (neg_ℤ y)) refl)
    where
      by_test : (t : Bool) → int_eq (neg_ℤ e.literal) y ≡ t → (s : Bool) → set y ≡ s → (b : Bool) → is_true (take start trail) (neg_ℤ y) ≡ b → ((s && b) || (t || false)) ≡ s
      by_test true f true g true h = refl
      by_test true f true g false h = refl
      by_test true f false g b h = absurd (differ _ (ap set (sym (same_literal (neg_ℤ e.literal) y f)) ∙ left_in) g)
      by_test false f true g true h = refl
      by_test false f true g false h =
          absurd (differ _ (others_false y g (swap (int_eq y (neg_ℤ e.literal)) refl)) h)
        where
          swap : (b : Bool) → int_eq y (neg_ℤ e.literal) ≡ b → int_eq y (neg_ℤ e.literal) ≡ false
          swap false k = k
          swap true k = absurd (differ _ (equal_literal (neg_ℤ e.literal) y (sym (same_literal y (neg_ℤ e.literal) k))) f)
      by_test false f false g b h = refl

  pub left_literals : n ≤ 2 ^ 30 → All IsLiteral (chain.found.items ++ neg_ℤ e.literal ∷ [])
  left_literals small = all_literals (chain.found.items ++ neg_ℤ e.literal ∷ []) (λ y has. literal-over n y small (over y (sym (left_set y) ∙ has)))
    where
      over : (y : ℤ) → set y ≡ true → IsOver n y
      over y own =
          let other = negated-over n (neg_ℤ y) (true-over n trail (neg_ℤ y) kept.over (true_in_all trail (chain.low + 1) (neg_ℤ y) (back.falses y own))) in
          rw (negated_twice y) at other

      all_literals : (xs : List ℤ) → ((y : ℤ) → has_literal xs y ≡ true → IsLiteral y) → All IsLiteral xs
      all_literals [] each k d h = absurd (omega arith)
      all_literals (x ∷ xs) each zero d h = each x (rw (equal_literal x x refl) refl)
      all_literals (x ∷ xs) each (suc k) d h = all_literals xs (λ y has. each y (or_behind (int_eq x y) _ has)) k d (omega arith)

  pub lesson_asserts : (conflict : ℕ) (clause : List ℤ) (landing : Landing) → numbered clauses conflict ≡ Some first → IsClause clause
      → ((y : ℤ) → has_literal clause y ≡ has_literal (chain.found.items ++ neg_ℤ e.literal ∷ []) y) → IsLanding trail set (neg_ℤ e.literal) start landing
      → IsLesson clauses trail conflict record { clause = clause; first = conflict; steps = steps } (Some landing)
  lesson_asserts conflict clause landing named rises has lands = record {
    first = refl;
    right = rw (named, back.chain) (λ y. sym (same y));
    reasons = back.reasons;
    landing = record {
      decided = lands.decided;
      unit = rw lands.literal unit;
      latest = rw lands.literal (subst (λ s. IsLatest trail s (neg_ℤ e.literal) landing.cut landing.other) (λ i y. sym (same y) i) lands.latest);
    };
    rises = rises;
  }
    where
      same : (y : ℤ) → has_literal clause y ≡ set y
      same y = has y ∙ left_set y

      unit : unit_of (is_true (take landing.cut trail)) clause ≡ Some (neg_ℤ e.literal)
      unit =
          all_but_one (is_true (take landing.cut trail)) clause (neg_ℤ e.literal) rises (same (neg_ℤ e.literal) ∙ left_in) (λ y h other. lands.falses y (sym (same y) ∙ h) other)
          (left_free landing.cut lands.inside) (left_open landing.cut lands.inside)

  pub marks_gone : (clause : List ℤ) → ((y : ℤ) → has_literal clause y ≡ has_literal (chain.found.items ++ neg_ℤ e.literal ∷ []) y) → (y : ℤ) → (set y && not (has_literal clause y)) ≡ false
  marks_gone clause has y = rw (has y, left_set y) (both (set y))
    where
      both : (b : Bool) → (b && not b) ≡ false
      both true = refl
      both false = refl
