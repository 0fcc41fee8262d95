-- Literals that leave a clause since its others imply them.
use Rattle.std.proofs.Common.{◌≡◌, ◌⊎◌, ℕ, ◌+◌, ◌<◌, ◌≤◌, Bool, true, false, ◌||◌, List, [], ◌∷◌, ◌++◌, get_or, length, pos, take, refl, sym, ◌∙◌, ap, arith, Option, Some}
use mathlib.Core.Logic.{inl, inr}
use Rattle.std.specs.Prelude.{ℤ, neg_ℤ, not, ◌&&◌, filter, slice_get, if◌then◌else◌}
use Rattle.std.specs.Ordering.{int_eq}
use Rattle.std.proofs.lemmas.List.Folds.{list_all-append, list_any-append}
use Rattle.cnf.specs.Checks.{numbered}
use Rattle.cnf.specs.Clauses.{has_literal}
use Rattle.cnf.specs.Resolution.{can_resolve, resolvent}
use Rattle.cnf.proofs.ClauseLaws.{equal_literal, same_literal}
use Rattle.cnf.proofs.literal_marks.MarksLaws.{has_literal-more}
use Rattle.search.specs.declared.chain.Chain.{Chain}
use Rattle.search.specs.declared.trail.Entry.{Entry}
use Rattle.search.specs.Chains.{AreFound, IsBack, IsGoing, IsMarkedAt, IsThinned, IsWider, skips, without}
use Rattle.search.specs.Machine.{is_implied_by, is_true}
use Rattle.search.specs.Sound.{Implies}
use Rattle.search.specs.Trails.{IsTrail}
use Rattle.search.proofs.BackLaws.{implied_at, negated_twice, or_behind, or_cases, resolved_more, some_entry, true_at, true_later}
use Rattle.search.proofs.ChainLaws.{not_before}
use Rattle.search.proofs.KeptLaws.{and_left, and_right}

differ : (b : Bool) → b ≡ true → b ≡ false → ⊥
differ b e f = let no : true ≡ false = sym e ∙ f in absurd cc

-- ---- literals that are found

pub wider_none : (set : ℤ → Bool) (found : List ℤ) (added : ℤ → Bool) → IsWider set found set found added
wider_none set found added = record { keeps = λ y h. h; covers = λ y h. inl h; only = λ y h. inl h }

pub wider_then : (set mid next : ℤ → Bool) (a b c : List ℤ) (one two all : ℤ → Bool) → IsWider set a mid b one → IsWider mid b next c two → ((y : ℤ) → one y ≡ true → all y ≡ true)
    → ((y : ℤ) → two y ≡ true → all y ≡ true) → IsWider set a next c all
wider_then set mid next a b c one two all p q first second = record {
  keeps = λ y h. q.keeps y (p.keeps y h);
  covers = λ y h. cover y (q.covers y h);
  only = λ y h. only y (q.only y h);
}
  where
    cover : (y : ℤ) → (mid y ≡ true) ⊎ (has_literal c y ≡ true) → (set y ≡ true) ⊎ (has_literal c y ≡ true)
    cover y (inl h) = by_first (p.covers y h)
      where
        by_first : (set y ≡ true) ⊎ (has_literal b y ≡ true) → (set y ≡ true) ⊎ (has_literal c y ≡ true)
        by_first (inl f) = inl f
        by_first (inr f) = inr (q.keeps y f)
    cover y (inr h) = inr h

    only : (y : ℤ) → (has_literal b y ≡ true) ⊎ (two y ≡ true) → (has_literal a y ≡ true) ⊎ (all y ≡ true)
    only y (inl h) = by_first (p.only y h)
      where
        by_first : (has_literal a y ≡ true) ⊎ (one y ≡ true) → (has_literal a y ≡ true) ⊎ (all y ≡ true)
        by_first (inl f) = inl f
        by_first (inr f) = inr (first y f)
    only y (inr h) = inr (second y h)

pub wider_more : (set next : ℤ → Bool) (found wider : List ℤ) (one all : ℤ → Bool) → IsWider set found next wider one → ((y : ℤ) → one y ≡ true → all y ≡ true) → IsWider set found next wider all
wider_more set next found wider one all p more = record { keeps = p.keeps; covers = p.covers; only = λ y h. by y (p.only y h) }
  where
    by : (y : ℤ) → (has_literal found y ≡ true) ⊎ (one y ≡ true) → (has_literal found y ≡ true) ⊎ (all y ≡ true)
    by y (inl f) = inl f
    by y (inr f) = inr (more y f)

other_has : (found : List ℤ) (x y : ℤ) → has_literal (found ++ x ∷ []) y ≡ (has_literal found y || int_eq x y)
other_has found x y = list_any-append (λ z. int_eq z y) found (x ∷ []) ∙ by (has_literal found y) (int_eq x y)
  where
    by : (a b : Bool) → (a || (b || false)) ≡ (a || b)
    by a true = refl
    by a false = refl

-- one literal, which is new
pub wider_one : (set next : ℤ → Bool) (found wider : List ℤ) (x : ℤ) → ((y : ℤ) → next y ≡ (set y || int_eq x y)) → wider ≡ found ++ x ∷ [] → IsWider set found next wider (int_eq x)
wider_one set next found wider x adds grows = record {
  keeps = λ y h. has y ∙ rw h refl;
  covers = λ y h. cover y (or_cases _ _ (sym (adds y) ∙ h));
  only = λ y h. or_cases _ _ (sym (has y) ∙ h);
}
  where
    has : (y : ℤ) → has_literal wider y ≡ (has_literal found y || int_eq x y)
    has y = ap (λ xs. has_literal xs y) grows ∙ other_has found x y

    cover : (y : ℤ) → (set y ≡ true) ⊎ (int_eq x y ≡ true) → (set y ≡ true) ⊎ (has_literal wider y ≡ true)
    cover y (inl h) = inl h
    cover y (inr h) = inr (has y ∙ or_behind _ _ h)

-- the others of a clause, one literal longer
module _ (xs : List ℤ) (i : ℕ) (inside : i < length xs) (skipped : Option ℤ) where
  all_but : (a b : Bool) → a ≡ true → b ≡ false → (a && not b) ≡ true
  all_but true false f g = refl
  all_but true true f g = absurd cc
  all_but false b f g = absurd cc

  pub others_front : (y : ℤ) → (has_literal (take i xs) y && not (skips skipped y)) ≡ true → (has_literal (take (i + 1) xs) y && not (skips skipped y)) ≡ true
  others_front y h = by (has_literal (take i xs) y) refl (not (skips skipped y)) refl
    where
      by : (a : Bool) → has_literal (take i xs) y ≡ a → (b : Bool) → not (skips skipped y) ≡ b → (has_literal (take (i + 1) xs) y && not (skips skipped y)) ≡ true
      by true f true g = rw (has_literal-more xs i y inside, f, g) refl
      by true f false g = absurd (differ _ h (rw (f, g) refl))
      by false f b g = absurd (differ _ h (rw f refl))

  pub others_last : skips skipped (get_or xs i (pos 0)) ≡ false → (y : ℤ) → int_eq (get_or xs i (pos 0)) y ≡ true → (has_literal (take (i + 1) xs) y && not (skips skipped y)) ≡ true
  others_last apart y h =
      let is : get_or xs i (pos 0) ≡ y = same_literal (get_or xs i (pos 0)) y h in
      all_but (has_literal (take (i + 1) xs) y) (skips skipped y) (has_literal-more xs i y inside ∙ or_behind _ _ h) (ap (skips skipped) (sym is) ∙ apart)

-- ---- literals that are resolved away

pub thinned_none : (clauses : List (List ℤ)) (trail : List Entry) (set : ℤ → Bool) (chain : Chain) → IsThinned clauses trail set chain set chain
thinned_none clauses trail set chain = record { start = refl; low = refl; found = λ h. h; less = λ y h. inl h; rest = λ y h late. h; back = λ first front below b. b }

pub thinned_then : (clauses : List (List ℤ)) (trail : List Entry) (set mid next : ℤ → Bool) (a b c : Chain) → IsThinned clauses trail set a mid b → IsThinned clauses trail mid b next c
    → IsThinned clauses trail set a next c
thinned_then clauses trail set mid next a b c p q = record {
  start = q.start ∙ p.start;
  low = q.low ∙ p.low;
  found = λ h. (let next_found = rw p.start at q.found in next_found (p.found h));
  less = λ y h. less y (q.less y h);
  rest = λ y h late. q.rest y (p.rest y h late) (ap (λ k. is_true (take k trail) (neg_ℤ y)) p.start ∙ late);
  back = λ first front below h. q.back first front (rw p.start below) (p.back first front below h);
}
  where
    less : (y : ℤ) → (mid y ≡ true) ⊎ (is_true (take b.start trail) (neg_ℤ y) ≡ true) → (set y ≡ true) ⊎ (is_true (take a.start trail) (neg_ℤ y) ≡ true)
    less y (inl h) = p.less y h
    less y (inr h) = inr (ap (λ k. is_true (take k trail) (neg_ℤ y)) (sym p.start) ∙ h)

-- one literal, by the clause that implied its negation before the start
module _ (n : ℕ) (clauses : List (List ℤ)) (trail : List Entry) (kept : IsTrail n trail) (p : ℕ) (e : Entry) (number : ℕ) (clause : List ℤ) (at : slice_get trail p ≡ Some e) (reason : e.reason ≡ Some number)
    (named : numbered clauses number ≡ Some clause) (implies : Implies (take p trail) e.literal clause) (set next : ℤ → Bool) (before after : Chain) (own : set (neg_ℤ e.literal) ≡ true)
    (gives : (y : ℤ) → next y ≡ (without set (neg_ℤ e.literal) y || (has_literal clause y && not (skips (Some e.literal) y)))) (early : p < before.start) where
  others : (k : ℕ) → p ≤ k → (y : ℤ) → (has_literal clause y && not (skips (Some e.literal) y)) ≡ true → is_true (take k trail) (neg_ℤ y) ≡ true
  others k late y h =
      true_later trail p k (neg_ℤ y) late
      (implies.others y (and_left _ _ h) (λ s. differ (not (skips (Some e.literal) y)) (and_right _ _ h) (ap not (equal_literal y e.literal s))))

  less_one : (y : ℤ) → next y ≡ true → (set y ≡ true) ⊎ ((has_literal clause y && not (skips (Some e.literal) y)) ≡ true)
  less_one y h = by (or_cases _ _ (sym (gives y) ∙ h))
    where
      by : (without set (neg_ℤ e.literal) y ≡ true) ⊎ ((has_literal clause y && not (skips (Some e.literal) y)) ≡ true) → (set y ≡ true) ⊎ ((has_literal clause y && not (skips (Some e.literal) y)) ≡ true)
      by (inl f) = inl (and_left _ _ f)
      by (inr f) = inr f

  same : (y : ℤ) → resolvent set (neg_ℤ e.literal) (has_literal clause) y ≡ next y
  same y = rw (negated_twice e.literal, gives y) refl

  pub thinned_one : IsWider (without set (neg_ℤ e.literal)) before.found.items next after.found.items (λ y. has_literal clause y && not (skips (Some e.literal) y)) → after.start ≡ before.start → after.low ≡ before.low
      → after.steps.items ≡ before.steps.items ++ (number, neg_ℤ e.literal) ∷ [] → IsThinned clauses trail set before next after
  thinned_one wider start low steps = record {
    start = start;
    low = low;
    found = λ h. record {
      covers = λ y set_has front. cover h y front (wider.covers y set_has);
      early = λ y has. first h y (wider.only y has);
    };
    less = λ y h. less y (less_one y h);
    rest = λ y h late. gives y ∙ rw (h, apart y late) refl;
    back = λ first front below b. record {
      chain = rw steps (resolved_more clauses (has_literal first) before.steps.items (number, neg_ℤ e.literal) clause set named able b.chain ∙ ap Some (λ i x. same x i));
      reasons = rw steps (list_all-append (λ (step : ℕ × ℤ). is_implied_by trail step.0 step.1) before.steps.items _ ∙ rw (b.reasons, told) refl);
      falses = λ y h. falses first front below b y (less_one y h);
    };
  }
    where
      cover : AreFound trail before.start set before.found.items → (y : ℤ) → is_true (take before.start trail) (neg_ℤ y) ≡ true
          → (without set (neg_ℤ e.literal) y ≡ true) ⊎ (has_literal after.found.items y ≡ true) → has_literal after.found.items y ≡ true
      cover h y front (inl f) = wider.keeps y (h.covers y (and_left _ _ f) front)
      cover h y front (inr f) = f

      first : AreFound trail before.start set before.found.items → (y : ℤ) → (has_literal before.found.items y ≡ true) ⊎ ((has_literal clause y && not (skips (Some e.literal) y)) ≡ true)
          → is_true (take before.start trail) (neg_ℤ y) ≡ true
      first h y (inl f) = h.early y f
      first h y (inr f) = others before.start (omega arith) y f

      less : (y : ℤ) → (set y ≡ true) ⊎ ((has_literal clause y && not (skips (Some e.literal) y)) ≡ true) → (set y ≡ true) ⊎ (is_true (take before.start trail) (neg_ℤ y) ≡ true)
      less y (inl f) = inl f
      less y (inr f) = inr (others before.start (omega arith) y f)

      falses : (first : List ℤ) (front : ℕ) → before.start ≤ front → IsBack clauses trail first front set before.steps.items → (y : ℤ) → (set y ≡ true) ⊎ ((has_literal clause y && not (skips (Some e.literal) y)) ≡ true)
          → is_true (take front trail) (neg_ℤ y) ≡ true
      falses first front below b y (inl f) = b.falses y f
      falses first front below b y (inr f) = others front (omega (arith, below)) y f

      able : can_resolve set (neg_ℤ e.literal) (has_literal clause) ≡ true
      able = rw (own, negated_twice e.literal, implies.here) refl

      told : is_implied_by trail number (neg_ℤ e.literal) ≡ true
      told = implied_at trail p e number at reason

      apart : (y : ℤ) → is_true (take before.start trail) (neg_ℤ y) ≡ false → int_eq y (neg_ℤ e.literal) ≡ false
      apart y late = by (int_eq y (neg_ℤ e.literal)) refl
        where
          by : (t : Bool) → int_eq y (neg_ℤ e.literal) ≡ t → t ≡ false
          by false f = refl
          by true f =
              let is : neg_ℤ y ≡ e.literal = ap neg_ℤ (same_literal y (neg_ℤ e.literal) f) ∙ negated_twice e.literal in
              absurd (differ (is_true (take before.start trail) (neg_ℤ y)) (ap (is_true (take before.start trail)) is ∙ true_at trail p before.start e early at) late)

-- what is left of a list
pub has_literal-filter : (test : ℤ → Bool) (xs : List ℤ) (y : ℤ) → has_literal (filter test xs) y ≡ (has_literal xs y && test y)
has_literal-filter test [] y = refl
has_literal-filter test (x ∷ xs) y = by_test (test x) refl (int_eq x y) refl (has_literal-filter test xs y)
  where
    by_test : (a : Bool) → test x ≡ a → (t : Bool) → int_eq x y ≡ t → has_literal (filter test xs) y ≡ (has_literal xs y && test y)
        → has_literal (if a then x ∷ filter test xs else filter test xs) y ≡ ((t || has_literal xs y) && test y)
    by_test true f true g rest = rw g (sym (ap test (sym (same_literal x y g)) ∙ f))
    by_test true f false g rest = rw g rest
    by_test false f true g rest = let own : test y ≡ false = ap test (sym (same_literal x y g)) ∙ f in rest ∙ rw own (both_false (has_literal xs y))
      where
        both_false : (b : Bool) → (b && false) ≡ false
        both_false true = refl
        both_false false = refl
    by_test false f false g rest = rest

-- the chain whose found literals are those that are left
pub minimized_going : (n : ℕ) (clauses : List (List ℤ)) (trail : List Entry) (kept : IsTrail n trail) (set next : ℤ → Bool) (before mid after : Chain) → IsGoing trail set (before.low + 1) before
    → IsThinned clauses trail set before next mid → after.start ≡ mid.start → after.low ≡ mid.low → after.found.items ≡ filter next mid.found.items → IsGoing trail next (after.low + 1) after
minimized_going n clauses trail kept set next before mid after going thinned start low found = record {
  gathered = record {
    found = λ y.
        ap (λ xs. has_literal xs y) found ∙ has_literal-filter next mid.found.items y
        ∙ rw (start, thinned.start) (by_test y (next y) refl (is_true (take before.start trail) (neg_ℤ y)) refl (has_literal mid.found.items y) refl);
    none = λ y own h. rw (start, thinned.start) (none y (thinned.less y own) (rw (low, thinned.low) at h));
    inside = let inside = going.gathered.inside in rw (start, thinned.start, low, thinned.low) inside;
  };
  low = rw (low, thinned.low) lowest;
  below = omega arith;
}
  where
    first : AreFound trail before.start set before.found.items
    first = record {
      covers = λ y own early. going.gathered.found y ∙ rw (own, early) refl;
      early = λ y has. and_right (set y) (is_true (take before.start trail) (neg_ℤ y)) (sym (going.gathered.found y) ∙ has);
    }

    by_test : (y : ℤ) (a : Bool) → next y ≡ a → (b : Bool) → is_true (take before.start trail) (neg_ℤ y) ≡ b → (h : Bool) → has_literal mid.found.items y ≡ h → (h && a) ≡ (a && b)
    by_test y true f true g true k = refl
    by_test y true f true g false k = absurd (differ (has_literal mid.found.items y) ((thinned.found first).covers y f g) k)
    by_test y true f false g true k = absurd (differ (is_true (take before.start trail) (neg_ℤ y)) ((thinned.found first).early y k) g)
    by_test y true f false g false k = refl
    by_test y false f b g true k = refl
    by_test y false f b g false k = refl

    none : (y : ℤ) → (set y ≡ true) ⊎ (is_true (take before.start trail) (neg_ℤ y) ≡ true) → is_true (take before.low trail) (neg_ℤ y) ≡ true → is_true (take before.start trail) (neg_ℤ y) ≡ true
    none y (inl own) h = going.gathered.none y own h
    none y (inr early) h = early

    lowest : IsMarkedAt trail next before.low
    lowest =
        let entry = some_entry trail before.low (λ e. set (neg_ℤ e.literal) ≡ true) going.low in
        let late = not_before n trail before.low before.start entry.0 (neg_ℤ (neg_ℤ entry.0.literal)) kept entry.1 going.gathered.inside (inl (negated_twice entry.0.literal)) in
        rw entry.1 (thinned.rest (neg_ℤ entry.0.literal) entry.2 late)
