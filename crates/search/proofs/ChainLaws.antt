-- Literals that are added to a clause which is resolved back along the trail.
use Rattle.std.proofs.Common.{◌≡◌, ◌⊎◌, ℕ, zero, suc, ◌+◌, ◌*◌, ◌<◌, ◌≤◌, ◌^◌, Bool, true, false, ◌||◌, List, [], ◌∷◌, ◌++◌, length, take, refl, sym, ◌∙◌, ap, arith, Option, Some}
use mathlib.Core.Logic.{inl, inr}
use Rattle.std.specs.Prelude.{ℤ, neg_ℤ, not, ◌&&◌, slice_get}
use Rattle.std.specs.List.{list_all}
use Rattle.std.specs.Ordering.{int_eq}
use Rattle.std.proofs.lemmas.List.Folds.{list_any-append}
use Rattle.std.proofs.lemmas.Option.{slice_get_within}
use Rattle.cnf.specs.Checks.{numbered}
use Rattle.cnf.specs.Clauses.{IsLiteral, has_literal, literal_key}
use Rattle.cnf.specs.Resolution.{resolvent}
use Rattle.cnf.proofs.ClauseLaws.{equal_literal, same_literal}
use Rattle.cnf.proofs.literal_marks.MarksLaws.{int_eq-sym}
use Rattle.search.specs.declared.chain.Chain.{Chain}
use Rattle.search.specs.declared.trail.Entry.{Entry}
use Rattle.search.specs.Chains.{AreFalseOthers, IsAdded, IsBack, IsGathered, IsGoing, IsMarkedAt, IsReach, skips, without}
use Rattle.search.specs.Laws.{is_over}
use Rattle.search.specs.Machine.{is_conflict, is_true}
use Rattle.search.specs.Sound.{Implies}
use Rattle.search.specs.Trails.{AreLocated, IsTrail}
use Rattle.search.proofs.BackLaws.{apart_later, free_before, literal-over, negated-over, negated_twice, or_behind, or_cases, some_entry, true_at, true_in_all, true_later}
use Rattle.search.proofs.KeptLaws.{and_left, and_right, has_over, is_over-tells, numbered_over}

differ : (b : Bool) → b ≡ true → b ≡ false → ⊥
differ b e f = let no : true ≡ false = sym e ∙ f in absurd cc

-- ---- where literals stand

pub found_at : (trail : List Entry) (z : ℤ) → is_true trail z ≡ true → (p : ℕ) × (e : Entry) × (slice_get trail p ≡ Some e) × (e.literal ≡ z)
found_at [] z h = absurd cc
found_at (f ∷ trail) z h = by_test (int_eq f.literal z) refl h (found_at trail z)
  where
    by_test : (b : Bool) → int_eq f.literal z ≡ b → (b || is_true trail z) ≡ true
        → (is_true trail z ≡ true → (p : ℕ) × (e : Entry) × (slice_get trail p ≡ Some e) × (e.literal ≡ z))
        → (p : ℕ) × (e : Entry) × (slice_get (f ∷ trail) p ≡ Some e) × (e.literal ≡ z)
    by_test true g t rest = (zero, f, refl, same_literal f.literal z g)
    by_test false g t rest = let r = rest t in (suc r.0, r.1, r.2, r.3)

pub located_at : (trail : List Entry) (places : List ℕ) (z : ℤ) → AreLocated trail places → is_true trail z ≡ true
    → (p : ℕ) × (e : Entry) × (slice_get trail p ≡ Some e) × (e.literal ≡ z) × (slice_get places (literal_key z) ≡ Some p)
located_at trail places z at h =
    let f = found_at trail z h in (f.0, f.1, f.2, f.3, ap (λ y. slice_get places (literal_key y)) (sym f.3) ∙ at f.0 f.1 f.2)

-- a literal isn't true before the place where it or its negation stands
pub not_before : (n : ℕ) (trail : List Entry) (p k : ℕ) (e : Entry) (x : ℤ) → IsTrail n trail → slice_get trail p ≡ Some e → k ≤ p → (x ≡ e.literal) ⊎ (x ≡ neg_ℤ e.literal)
    → is_true (take k trail) x ≡ false
not_before n trail p k e x is at low same = by_value (is_true (take k trail) x) refl
  where
    by_value : (b : Bool) → is_true (take k trail) x ≡ b → is_true (take k trail) x ≡ false
    by_value false f = f
    by_value true f = absurd (differ _ (true_later trail k p x low f) (free_before n trail p e x is.over is.distinct at same))

pub marked_still : (trail : List Entry) (set next : ℤ → Bool) (p : ℕ) → ((y : ℤ) → set y ≡ true → next y ≡ true) → IsMarkedAt trail set p → IsMarkedAt trail next p
marked_still trail set next p more h = let found = some_entry trail p (λ e. set (neg_ℤ e.literal) ≡ true) h in rw found.1 (more _ found.2)

-- the literals of a clause have their places in the tables
pub clause_keys : (n size : ℕ) (clauses : List (List ℤ)) (number : ℕ) (clause : List ℤ) → n ≤ 2 ^ 30 → size ≡ 2 * n + 2 → list_all (list_all (is_over n)) clauses ≡ true → numbered clauses number ≡ Some clause
    → (x : ℤ) → has_literal clause x ≡ true → IsLiteral x × (literal_key x < size) × (literal_key (neg_ℤ x) < size)
clause_keys n size clauses number clause small room over named x has =
    let own = is_over-tells n x (has_over n clause x (numbered_over n clauses number clause over named) has) in
    let other = negated-over n x own in
    let high = own.1 in
    let other_high = other.1 in
    (literal-over n x small own, omega (arith, high, room), omega (arith, other_high, room))

-- ---- one literal more

module _ (n : ℕ) (trail : List Entry) (kept : IsTrail n trail) (x : ℤ) (place : ℕ) (e : Entry) (at : slice_get trail place ≡ Some e) (is : e.literal ≡ neg_ℤ x) (set next : ℤ → Bool)
    (adds : (y : ℤ) → next y ≡ (set y || int_eq x y)) (before after : Chain) (start : after.start ≡ before.start) (steps : after.steps ≡ before.steps) where
  true_after : (k : ℕ) → place < k → is_true (take k trail) (neg_ℤ x) ≡ true
  true_after k h = ap (is_true (take k trail)) (sym is) ∙ true_at trail place k e h at

  false_until : (k : ℕ) → k ≤ place → is_true (take k trail) (neg_ℤ x) ≡ false
  false_until k h = not_before n trail place k e (neg_ℤ x) kept at h (inl (sym is))

  not_found : (g : IsGathered trail set before) → before.start ≤ place → after.found.items ≡ before.found.items → (y : ℤ)
      → has_literal after.found.items y ≡ (next y && is_true (take after.start trail) (neg_ℤ y))
  not_found g low same y =
      ap (λ xs. has_literal xs y) same ∙ g.found y ∙ rw (adds y, start) (by_test (int_eq x y) refl (set y) (is_true (take before.start trail) (neg_ℤ y)) refl)
    where
      by_test : (t : Bool) → int_eq x y ≡ t → (s b : Bool) → is_true (take before.start trail) (neg_ℤ y) ≡ b → (s && b) ≡ ((s || t) && b)
      by_test true f s true h =
          let same : x ≡ y = same_literal x y f in
          absurd (differ _ (ap (λ z. is_true (take before.start trail) (neg_ℤ z)) same ∙ h) (false_until before.start low))
      by_test true f true false h = refl
      by_test true f false false h = refl
      by_test false f true b h = refl
      by_test false f false b h = refl

  none_more : (g : IsGathered trail set before) → after.low ≤ before.low → ((place < before.start) ⊎ (after.low ≤ place)) → (y : ℤ) → next y ≡ true
      → is_true (take after.low trail) (neg_ℤ y) ≡ true → is_true (take after.start trail) (neg_ℤ y) ≡ true
  none_more g low where_ y own h = ap (λ k. is_true (take k trail) (neg_ℤ y)) start ∙ by_side (or_cases _ _ (sym (adds y) ∙ own)) where_
    where
      by_side : (set y ≡ true) ⊎ (int_eq x y ≡ true) → ((place < before.start) ⊎ (after.low ≤ place)) → is_true (take before.start trail) (neg_ℤ y) ≡ true
      by_side (inl f) w = g.none y f (true_later trail after.low before.low (neg_ℤ y) low h)
      by_side (inr f) (inl w) = ap (λ z. is_true (take before.start trail) (neg_ℤ z)) (sym (same_literal x y f)) ∙ true_after before.start w
      by_side (inr f) (inr w) =
          absurd (differ _ (ap (λ z. is_true (take after.low trail) (neg_ℤ z)) (same_literal x y f) ∙ h) (false_until after.low w))

  -- it is false before the start
  pub added_found : place < before.start → after.found.items ≡ before.found.items ++ x ∷ [] → after.low ≡ before.low → IsAdded trail set before next after
  added_found early grows low = record {
    start = start;
    steps = steps;
    gathers = λ g. record {
      found = λ y.
          ap (λ xs. has_literal xs y) grows ∙ list_any-append (λ z. int_eq z y) before.found.items (x ∷ [])
          ∙ rw (g.found y, adds y, start) (by_test y (int_eq x y) refl (set y) (is_true (take before.start trail) (neg_ℤ y)) refl);
      none = none_more g (omega (arith, low)) (inl early);
      inside = let inside = g.inside in omega (arith, inside, low, start);
    };
    low = inl low;
  }
    where
      by_test : (y : ℤ) (t : Bool) → int_eq x y ≡ t → (s b : Bool) → is_true (take before.start trail) (neg_ℤ y) ≡ b → ((s && b) || (t || false)) ≡ ((s || t) && b)
      by_test y true f true true h = refl
      by_test y true f false true h = refl
      by_test y true f s false h =
          absurd (differ _ (ap (λ z. is_true (take before.start trail) (neg_ℤ z)) (sym (same_literal x y f)) ∙ true_after before.start early) h)
      by_test y false f true true h = refl
      by_test y false f true false h = refl
      by_test y false f false b h = refl

  -- it is the first to be false from there on
  pub added_low : before.start ≤ place → after.found.items ≡ before.found.items → after.low ≡ place → place < before.low → IsAdded trail set before next after
  added_low late same low below = record {
    start = start;
    steps = steps;
    gathers = λ g. record {
      found = not_found g late same;
      none = none_more g (omega (arith, low, below)) (inr (omega (arith, low)));
      inside = omega (arith, late, low, start);
    };
    low = inr (omega (arith, low, below), rw (low, at) (adds (neg_ℤ e.literal) ∙ or_behind _ _ (equal_literal x (neg_ℤ e.literal) (sym (ap neg_ℤ is ∙ negated_twice x)))));
  }

  -- it isn't
  pub added_high : before.start ≤ place → after.found.items ≡ before.found.items → after.low ≡ before.low → before.low ≤ place → IsAdded trail set before next after
  added_high late same low above = record {
    start = start;
    steps = steps;
    gathers = λ g. record {
      found = not_found g late same;
      none = none_more g (omega (arith, low)) (inr (omega (arith, low, above)));
      inside = let inside = g.inside in omega (arith, inside, low, start);
    };
    low = inl low;
  }

pub added_nothing : (trail : List Entry) (set : ℤ → Bool) (chain : Chain) → IsAdded trail set chain set chain
added_nothing trail set chain = record { start = refl; steps = refl; gathers = λ g. g; low = inl refl }

pub added_then : (trail : List Entry) (set mid next : ℤ → Bool) (a b c : Chain) → ((y : ℤ) → mid y ≡ true → next y ≡ true) → IsAdded trail set a mid b → IsAdded trail mid b next c → IsAdded trail set a next c
added_then trail set mid next a b c more p q = record {
  start = q.start ∙ p.start;
  steps = q.steps ∙ p.steps;
  gathers = λ g. q.gathers (p.gathers g);
  low = by_sides p.low q.low;
}
  where
    by_sides : (b.low ≡ a.low) ⊎ ((b.low < a.low) × IsMarkedAt trail mid b.low) → (c.low ≡ b.low) ⊎ ((c.low < b.low) × IsMarkedAt trail next c.low)
        → (c.low ≡ a.low) ⊎ ((c.low < a.low) × IsMarkedAt trail next c.low)
    by_sides (inl f) (inl g) = inl (g ∙ f)
    by_sides (inr f) (inl g) = let low = f.0 in inr (omega (arith, low, g), rw g (marked_still trail mid next b.low more f.1))
    by_sides (inl f) (inr g) = let low = g.0 in inr (omega (arith, low, f), g.1)
    by_sides (inr f) (inr g) = let low = g.0 in let before = f.0 in inr (omega (arith, low, before), g.1)

-- marks of the literals of a clause but one, with one literal more

pub others_added : (skipped : Option ℤ) (x y : ℤ) (old now next h : Bool) → skips skipped x ≡ false → now ≡ (old || (h && not (skips skipped y))) → next ≡ (now || int_eq x y)
    → next ≡ (old || ((h || int_eq x y) && not (skips skipped y)))
others_added skipped x y old now next h free is gives = gives ∙ rw is (by_test (int_eq x y) refl old h (skips skipped y) refl)
  where
    by_test : (t : Bool) → int_eq x y ≡ t → (o g k : Bool) → skips skipped y ≡ k → ((o || (g && not k)) || t) ≡ (o || ((g || t) && not k))
    by_test t f true g k e = refl
    by_test true f false g true e = let no : true ≡ false = sym e ∙ ap (skips skipped) (sym (same_literal x y f)) ∙ free in absurd cc
    by_test true f false true false e = refl
    by_test true f false false false e = refl
    by_test false f false true true e = refl
    by_test false f false true false e = refl
    by_test false f false false k e = refl

pub others_kept : (skipped : Option ℤ) (x y : ℤ) (old now h : Bool) → skips skipped x ≡ true → now ≡ (old || (h && not (skips skipped y))) → now ≡ (old || ((h || int_eq x y) && not (skips skipped y)))
others_kept skipped x y old now h own is = is ∙ by_test (int_eq x y) refl old h (skips skipped y) refl
  where
    by_test : (t : Bool) → int_eq x y ≡ t → (o g k : Bool) → skips skipped y ≡ k → (o || (g && not k)) ≡ (o || ((g || t) && not k))
    by_test t f true g k e = refl
    by_test true f false g false e = let no : true ≡ false = sym own ∙ ap (skips skipped) (same_literal x y f) ∙ e in absurd cc
    by_test true f false true true e = refl
    by_test true f false false true e = refl
    by_test false f false true true e = refl
    by_test false f false true false e = refl
    by_test false f false false k e = refl

-- ---- one entry back

pub going_over : (trail : List Entry) (set : ℤ → Bool) (p : ℕ) (chain : Chain) → chain.low < p → IsGoing trail set (p + 1) chain → IsGoing trail set p chain
going_over trail set p chain low g = record { gathered = g.gathered; low = g.low; below = low }

module _ (n : ℕ) (trail : List Entry) (kept : IsTrail n trail) (p : ℕ) (e : Entry) (at : slice_get trail p ≡ Some e) (set next : ℤ → Bool) (before : Chain) (late : before.start ≤ p) (under : before.low < p)
    (going : IsGoing trail set (p + 1) before) where
  gathered_without : IsGathered trail (without set (neg_ℤ e.literal)) before
  gathered_without = record {
    found = λ y. going.gathered.found y ∙ by_test y (int_eq y (neg_ℤ e.literal)) refl (set y) (is_true (take before.start trail) (neg_ℤ y)) refl;
    none = λ y own h. going.gathered.none y (and_left _ _ own) h;
    inside = going.gathered.inside;
  }
    where
      by_test : (y : ℤ) (t : Bool) → int_eq y (neg_ℤ e.literal) ≡ t → (s b : Bool) → is_true (take before.start trail) (neg_ℤ y) ≡ b → (s && b) ≡ ((s && not t) && b)
      by_test y true f s true h =
          let same : neg_ℤ y ≡ e.literal = ap neg_ℤ (same_literal y (neg_ℤ e.literal) f) ∙ negated_twice e.literal in
          absurd (differ _ h (not_before n trail p before.start e (neg_ℤ y) kept at late (inl same)))
      by_test y true f true false h = refl
      by_test y true f false false h = refl
      by_test y false f true b h = refl
      by_test y false f false b h = refl

  low_without : IsMarkedAt trail (without set (neg_ℤ e.literal)) before.low
  low_without =
      let found = some_entry trail before.low (λ d. set (neg_ℤ d.literal) ≡ true) going.low in
      let other = apart_later n trail before.low found.0 kept found.1 p e under at in
      let apart : int_eq (neg_ℤ found.0.literal) (neg_ℤ e.literal) ≡ false = int_eq-sym (neg_ℤ found.0.literal) (neg_ℤ e.literal) ∙ other in
      rw found.1 (rw (found.2, apart) refl)

  -- one whose literal's negation was resolved away
  pub going_resolved : (clause : List ℤ) (after last : Chain) → ((y : ℤ) → next y ≡ resolvent set (neg_ℤ e.literal) (has_literal clause) y) → IsAdded trail (without set (neg_ℤ e.literal)) before next after
      → last.start ≡ after.start → last.found ≡ after.found → last.low ≡ after.low → IsGoing trail next p last
  going_resolved clause after last gives added start found low =
      let g = added.gathers gathered_without in
      record {
        gathered = record {
          found = λ y. rw (found, start) (g.found y);
          none = λ y. rw (low, start) (g.none y);
          inside = rw (low, start) g.inside;
        };
        low = rw low (by_side added.low);
        below = rw low (below added.low);
      }
    where
      more : (y : ℤ) → without set (neg_ℤ e.literal) y ≡ true → next y ≡ true
      more y own = gives y ∙ front _ _ own
        where
          front : (a b : Bool) → a ≡ true → (a || b) ≡ true
          front true b h = refl
          front false b h = absurd cc

      by_side : (after.low ≡ before.low) ⊎ ((after.low < before.low) × IsMarkedAt trail next after.low) → IsMarkedAt trail next after.low
      by_side (inl h) = rw h (marked_still trail _ next before.low more low_without)
      by_side (inr h) = h.1

      below : (after.low ≡ before.low) ⊎ ((after.low < before.low) × IsMarkedAt trail next after.low) → after.low < p
      below (inl h) = omega (arith, h, under)
      below (inr h) = let lower = h.0 in omega (arith, lower, under)

-- the other literals of a clause that implied one
pub others_of : (trail : List Entry) (p : ℕ) (x : ℤ) (clause : List ℤ) → Implies (take p trail) x clause → AreFalseOthers trail clause (Some (neg_ℤ (neg_ℤ x)))
others_of trail p x clause implies y has other =
    true_in_all trail p (neg_ℤ y) (implies.others y has (λ same. differ _ (equal_literal y (neg_ℤ (neg_ℤ x)) (same ∙ sym (negated_twice x))) other))

-- ---- the beginning

pub conflict_falses : (trail : List Entry) (xs : List ℤ) (y : ℤ) → is_conflict (is_true trail) xs ≡ true → has_literal xs y ≡ true → is_true trail (neg_ℤ y) ≡ true
conflict_falses trail [] y c h = absurd cc
conflict_falses trail (x ∷ xs) y c h = by_test (int_eq x y) refl h (conflict_falses trail xs y (and_right _ _ c))
  where
    by_test : (b : Bool) → int_eq x y ≡ b → (b || has_literal xs y) ≡ true → (has_literal xs y ≡ true → is_true trail (neg_ℤ y) ≡ true) → is_true trail (neg_ℤ y) ≡ true
    by_test true f g rest = let same = same_literal x y f in rw (← same) (and_left _ _ c)
    by_test false f g rest = rest g

-- one literal more of a clause that is false
pub reach_more : (trail : List Entry) (places : List ℕ) (front : List ℤ) (x : ℤ) (place reach next : ℕ) → AreLocated trail places → is_true trail (neg_ℤ x) ≡ true
    → slice_get places (literal_key (neg_ℤ x)) ≡ Some place → IsReach trail front reach → ((place < reach) × (next ≡ reach)) ⊎ ((reach ≤ place) × (next ≡ place + 1)) → IsReach trail (front ++ x ∷ []) next
reach_more trail places front x place reach next located false_ told r side = by_side side
  where
    found : (p : ℕ) × (e : Entry) × (slice_get trail p ≡ Some e) × (e.literal ≡ neg_ℤ x) × (slice_get places (literal_key (neg_ℤ x)) ≡ Some p)
    found = located_at trail places (neg_ℤ x) located false_

    same : found.0 ≡ place
    same = let both : Some found.0 ≡ Some place = sym found.4 ∙ told in cc

    at : slice_get trail place ≡ Some found.1
    at = ap (slice_get trail) (sym same) ∙ found.2

    sides : (y : ℤ) → has_literal (front ++ x ∷ []) y ≡ true → (has_literal front y ≡ true) ⊎ (y ≡ x)
    sides y h = by_or (or_cases _ _ (sym (list_any-append (λ z. int_eq z y) front (x ∷ [])) ∙ h))
      where
        by_or : (has_literal front y ≡ true) ⊎ ((int_eq x y || false) ≡ true) → (has_literal front y ≡ true) ⊎ (y ≡ x)
        by_or (inl g) = inl g
        by_or (inr g) = inr (sym (same_literal x y (plain _ g)))
          where
            plain : (b : Bool) → (b || false) ≡ true → b ≡ true
            plain true k = refl
            plain false k = k

    in_front : (y : ℤ) → has_literal front y ≡ true → has_literal (front ++ x ∷ []) y ≡ true
    in_front y h = list_any-append (λ z. int_eq z y) front (x ∷ []) ∙ rw h refl

    falses : reach ≤ next → place < next → (y : ℤ) → has_literal (front ++ x ∷ []) y ≡ true → is_true (take next trail) (neg_ℤ y) ≡ true
    falses low own y h = by_place (sides y h)
      where
        by_place : (has_literal front y ≡ true) ⊎ (y ≡ x) → is_true (take next trail) (neg_ℤ y) ≡ true
        by_place (inl g) = true_later trail reach next (neg_ℤ y) low (r.falses y g)
        by_place (inr g) = ap (λ z. is_true (take next trail) (neg_ℤ z)) g ∙ ap (is_true (take next trail)) (sym found.3) ∙ true_at trail place next found.1 own at

    by_side : ((place < reach) × (next ≡ reach)) ⊎ ((reach ≤ place) × (next ≡ place + 1)) → IsReach trail (front ++ x ∷ []) next
    by_side (inl h) = record {
      falses = let below = h.0 in let is = h.1 in falses (omega (arith, is)) (omega (arith, below, is));
      last = λ k e. marked_still trail (has_literal front) _ k in_front (r.last k (sym h.1 ∙ e));
    }
    by_side (inr h) = record {
      falses = let above = h.0 in let is = h.1 in falses (omega (arith, above, is)) (omega (arith, is));
      last = λ k e. let one : k ≡ place = (let is = h.1 in omega (arith, is, e)) in rw (one, at) own;
    }
      where
        own_test : (int_eq x x || false) ≡ true
        own_test = rw (equal_literal x x refl) refl

        own : has_literal (front ++ x ∷ []) (neg_ℤ found.1.literal) ≡ true
        own =
            let value : neg_ℤ found.1.literal ≡ x = ap neg_ℤ found.3 ∙ negated_twice x in
            ap (has_literal (front ++ x ∷ [])) value ∙ list_any-append (λ z. int_eq z x) front (x ∷ []) ∙ or_behind (has_literal front x) _ own_test

pub reach_none : (trail : List Entry) → IsReach trail [] 0
reach_none trail = record { falses = λ y h. absurd cc; last = λ k e. absurd (omega (arith, e)) }

pub reach_inside : (trail : List Entry) (clause : List ℤ) (reach : ℕ) → IsReach trail clause reach → reach ≤ length trail
reach_inside trail clause zero r = omega arith
reach_inside trail clause (suc k) r =
    let found = some_entry trail k (λ e. has_literal clause (neg_ℤ e.literal) ≡ true) (r.last k (omega arith)) in
    let within = slice_get_within trail k found.0 found.1 in
    omega arith

-- the clause so far, before any step
pub back_begins : (clauses : List (List ℤ)) (trail : List Entry) (first : List ℤ) (front : ℕ) (set : ℤ → Bool) (steps : List (ℕ × ℤ))
    → ((y : ℤ) → has_literal first y ≡ true → is_true (take front trail) (neg_ℤ y) ≡ true) → ((x : ℤ) → set x ≡ has_literal first x) → steps ≡ [] → IsBack clauses trail first front set steps
back_begins clauses trail first front set steps falses is none = record {
  chain = rw none (ap Some (sym (λ i x. is x i)));
  reasons = rw none refl;
  falses = λ y h. falses y (sym (is y) ∙ h);
}
