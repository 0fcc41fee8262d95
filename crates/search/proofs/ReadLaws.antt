-- How the watchers of a literal are visited.
use Rattle.std.proofs.Common.{◌≡◌, ◌⊎◌, ℕ, zero, suc, ◌+◌, ◌<◌, ◌≤◌, Bool, true, false, ◌||◌, eqb, List, [], ◌∷◌, ◌++◌, length, map, take, refl, sym, ◌∙◌, ap, arith, get_or, pos, Option, None, Some}
use mathlib.Core.Logic.{inl, inr}
use Rattle.std.specs.Prelude.{ℤ, negsuc, neg_ℤ, not, ◌==◌, slice_get, slice_set, if◌then◌else◌}
use Rattle.std.specs.List.{AllByRecursion, list_any}
use Rattle.std.specs.Option.{is_some, option_map}
use Rattle.std.specs.Ordering.{int_eq}
use Rattle.std.specs.Global.{Vec}
use Rattle.std.proofs.lemmas.Bool.Decides.{Decides-eqb}
use Rattle.std.proofs.lemmas.List.{take_all, length-set, map-append}
use Rattle.std.proofs.lemmas.Option.{slice_get-get_or, slice_get-map, slice_get_within}
use Rattle.std.proofs.lemmas.Map.Keys.{IsDistinct-head, IsDistinct-tail}
use Rattle.cnf.specs.declared.derivation.Derivation.{Derivation}
use Rattle.cnf.specs.declared.formula.Formula.{Formula}
use Rattle.cnf.specs.Clauses.{has_literal}
use Rattle.cnf.proofs.ClauseLaws.{equal_literal, same_literal}
use Rattle.cnf.proofs.literal_marks.MarksLaws.{int_eq-sym}
use Rattle.std.proofs.lemmas.List.Folds.{list_any-append}
use Rattle.search.specs.declared.scan.Scan.TheVariants as scan
use Rattle.search.specs.declared.trail.Entry.{Entry}
use Rattle.search.specs.declared.watching.Pair.{Pair}
use Rattle.search.specs.declared.watching.Watcher.{Watcher}
use Rattle.search.specs.declared.watching.Watching.{Watching}
use Rattle.search.specs.Machine.{IsOver, is_conflict, is_true, unit_of, with_entry}
use Rattle.search.specs.Readings.{IsReading, IsRewatched, is_of_pair}
use Rattle.search.specs.Sound.{Implies, all_clauses}
use Rattle.search.specs.Statuses.{IsScan}
use Rattle.search.specs.Trails.{IsTrail, place, places}
use Rattle.search.specs.Visits.{partner_of}
use Rattle.search.specs.Watching.{AllPassing, IsOf, IsPair, IsPaired, IsTracked, IsWatched, IsWatching, is_among, is_blocked, is_satisfied, list_of, watchers_of}
use Rattle.search.proofs.BackLaws.{negated_twice, or_cases, some_entry, true_in_all, true_next}
use Rattle.search.proofs.CutLaws.{absent}
use Rattle.search.proofs.KeptLaws.{and_left, and_right, is_over-tells, unit_is}
use Rattle.search.proofs.MachineLaws.{unit_implies}
use Rattle.search.proofs.ListsLaws.{among_places, clause_place, get-set_other, get-set_same, passing_added, passing_removed, place_at}
use Rattle.search.proofs.WatchLaws.{satisfied_more, watching_on}

differ : (b : Bool) → b ≡ true → b ≡ false → ⊥
differ b e f = let no : true ≡ false = sym e ∙ f in absurd cc

-- ---- a clause that is satisfied

pub reading_next : (formula : Formula) (learned : Derivation) (trail : List Entry) (w : Watching) (x : ℤ) (at place : ℕ) (clause : List ℤ) → slice_get (list_of w.watchers.items x) at ≡ Some place
    → slice_get (all_clauses formula learned) place ≡ Some clause → is_satisfied trail clause ≡ true → IsReading formula learned trail w x at → IsReading formula learned trail w x (at + 1)
reading_next formula learned trail w x at place clause here named own is = record {
  watching = is.watching;
  literal = is.literal;
  done = λ j k c pair h listed at_k has of. by_test j k c pair h listed at_k has of (eqb j at) refl;
}
  where
    by_test : (j k : ℕ) (c : List ℤ) (pair : Pair) → j < at + 1 → slice_get (list_of w.watchers.items x) j ≡ Some k → slice_get (all_clauses formula learned) k ≡ Some c
        → slice_get w.pairs.items k ≡ Some pair → is_of_pair pair x ≡ true → (b : Bool) → eqb j at ≡ b → is_satisfied trail c ≡ true
    by_test j k c pair h listed at_k has of true e =
        let same : j ≡ at = (Decides-eqb j at).0 e in
        let one : Some k ≡ Some place = sym listed ∙ ap (slice_get (list_of w.watchers.items x)) same ∙ here in
        let places : k ≡ place = cc in
        let two : Some c ≡ Some clause = sym at_k ∙ ap (slice_get (all_clauses formula learned)) places ∙ named in
        let clauses : c ≡ clause = cc in
        ap (is_satisfied trail) clauses ∙ own
    by_test j k c pair h listed at_k has of false e =
        let other : j ≡ at → ⊥ = λ s. differ (eqb j at) ((Decides-eqb j at).1 s) e in
        is.done j k c pair (omega (arith, h, other)) listed at_k has of

-- ---- a literal that is put on the trail

get_on : (trail : List Entry) (e : Entry) (i : ℕ) (f : Entry) → slice_get trail i ≡ Some f → slice_get (trail ++ e ∷ []) i ≡ Some f
get_on [] e i f h = absurd cc
get_on (g ∷ trail) e zero f h = h
get_on (g ∷ trail) e (suc i) f h = get_on trail e i f h

pub reading_on : (formula : Formula) (learned : Derivation) (trail : List Entry) (w : Watching) (x : ℤ) (at : ℕ) (y : ℤ) (number : ℕ) → IsReading formula learned trail w x at
    → IsReading formula learned (with_entry trail y (Some number)) w x at
reading_on formula learned trail w x at y number is = record {
  watching = watching_on formula learned trail w y (Some number) (λ none. absurd cc) is.watching;
  literal = let found = some_entry trail w.head (λ e. neg_ℤ e.literal ≡ x) is.literal in rw (get_on trail record { literal = y; reason = Some number } w.head found.0 found.1) found.2;
  done = λ j k clause pair h listed named has of. satisfied_more trail record { literal = y; reason = Some number } clause (is.done j k clause pair h listed named has of);
}

-- ---- another literal is watched

module _ (formula : Formula) (learned : Derivation) (trail : List Entry) (w n : Watching) (x y : ℤ) (at place : ℕ) (clause : List ℤ) (pair : Pair)
    (is : IsReading formula learned trail w x at) (here : slice_get (list_of w.watchers.items x) at ≡ Some place) (named : slice_get (all_clauses formula learned) place ≡ Some clause)
    (paired : slice_get w.pairs.items place ≡ Some pair) (own : has_literal clause y ≡ true) (free : is_true trail (neg_ℤ y) ≡ false) (other : int_eq y (partner_of pair x) ≡ false)
    (apart : int_eq y x ≡ false)
    (gives : IsRewatched w n x at place record { left = y; right = partner_of pair x }) where
  abbrev new : Pair
  new = record { left = y; right = partner_of pair x }

  within : place < length w.pairs.items
  within = slice_get_within w.pairs.items place pair paired

  watched_new : IsWatched trail w.head clause y
  watched_new = record {
    now = λ h. absurd (differ (is_true trail (neg_ℤ y)) (all_true trail w.head (neg_ℤ y) h) free);
    before = λ d decided h. absurd (differ (is_true trail (neg_ℤ y)) (all_true trail d (neg_ℤ y) h) free);
  }
    where
      all_true : (t : List Entry) (k : ℕ) (z : ℤ) → is_true (take k t) z ≡ true → is_true t z ≡ true
      all_true t k z h = true_in_all t k z h

  partner_watched : IsPair w.watchers.items trail w.head place clause pair
      → IsWatched trail w.head clause (partner_of pair x) × (is_among place (list_of w.watchers.items (partner_of pair x)) ≡ true) × (int_eq (partner_of pair x) x ≡ false)
  partner_watched p = by_test (int_eq pair.left x) refl
    where
      by_test : (b : Bool) → int_eq pair.left x ≡ b
          → IsWatched trail w.head clause (if b then pair.right else pair.left) × (is_among place (list_of w.watchers.items (if b then pair.right else pair.left)) ≡ true)
          × (int_eq (if b then pair.right else pair.left) x ≡ false)
      by_test true e = (p.right, p.right_listed, by_own (int_eq pair.right x) refl)
        where
          by_own : (b : Bool) → int_eq pair.right x ≡ b → int_eq pair.right x ≡ false
          by_own false f = f
          by_own true f = absurd (differ (int_eq pair.left pair.right) (equal_literal pair.left pair.right (same_literal pair.left x e ∙ sym (same_literal pair.right x f))) p.differ)
      by_test false e = (p.left, p.left_listed, e)

  tracked_new : IsTracked w.watchers.items trail w.head place clause pair → IsTracked n.watchers.items trail w.head place clause new
  tracked_new (inl s) = inl s
  tracked_new (inr p) =
      let partner = partner_watched p in
      inr record {
        left = watched_new;
        right = partner.0;
        differ = other;
        left_listed = gives.adds;
        right_listed = gives.keeps (partner_of pair x) place partner.1 (λ e f. differ (int_eq (partner_of pair x) x) e partner.2);
      }

  tracked_old : (k : ℕ) (c : List ℤ) (p : Pair) → (k ≡ place → ⊥) → IsTracked w.watchers.items trail w.head k c p → IsTracked n.watchers.items trail w.head k c p
  tracked_old k c p differs (inl s) = inl s
  tracked_old k c p differs (inr q) = inr record {
    left = q.left;
    right = q.right;
    differ = q.differ;
    left_listed = gives.keeps p.left k q.left_listed (λ e f. differs (sym f));
    right_listed = gives.keeps p.right k q.right_listed (λ e f. differs (sym f));
  }

  partner_own : IsOf pair clause → has_literal clause (partner_of pair x) ≡ true
  partner_own of = by_test (int_eq pair.left x)
    where
      by_test : (b : Bool) → has_literal clause (if b then pair.right else pair.left) ≡ true
      by_test true = of.1
      by_test false = of.0

  pub reading_moved : IsReading formula learned trail n x at
  reading_moved = record {
    watching = record {
      lists = gives.lists ∙ is.watching.lists;
      head = rw gives.head is.watching.head;
      decided = rw gives.head is.watching.decided;
      pairs = rw (gives.pairs, length-set) is.watching.pairs;
      tracked = λ k c p at_k has. rw gives.head (by_place k c p at_k (rw gives.pairs at has) (eqb k place) refl);
      own = λ k c p at_k has. own_at k c p at_k (rw gives.pairs at has) (eqb k place) refl;
      within = λ z k h. rw (gives.pairs, length-set) (inside z k (gives.only z k h));
      blocked = gives.passing (is_blocked (all_clauses formula learned)) (rw named (partner_own (is.watching.own place clause pair named paired))) is.watching.blocked;
    };
    literal = rw gives.head is.literal;
    done = λ j k c p h listed at_k has of. done_at j k c p h (sym (gives.front j h) ∙ listed) at_k (rw gives.pairs at has) of (eqb k place) refl;
  }
    where
      inside : (z : ℤ) (k : ℕ) → (is_among k (list_of w.watchers.items z) ≡ true) ⊎ (k ≡ place) → k < length w.pairs.items
      inside z k (inl h) = is.watching.within z k h
      inside z k (inr h) = rw h within

      by_place : (k : ℕ) (c : List ℤ) (p : Pair) → slice_get (all_clauses formula learned) k ≡ Some c → slice_get (slice_set w.pairs.items place new) k ≡ Some p
          → (b : Bool) → eqb k place ≡ b → IsTracked n.watchers.items trail w.head k c p
      by_place k c p at_k has true e =
          let same : k ≡ place = (Decides-eqb k place).0 e in
          let one : Some c ≡ Some clause = sym at_k ∙ ap (slice_get (all_clauses formula learned)) same ∙ named in
          let clauses : c ≡ clause = cc in
          let two : Some p ≡ Some new = sym has ∙ ap (slice_get (slice_set w.pairs.items place new)) same ∙ get-set_same w.pairs.items place new within in
          let news : p ≡ new = cc in
          rw (same, clauses, news) (tracked_new (is.watching.tracked place clause pair named paired))
      by_place k c p at_k has false e =
          let differs : k ≡ place → ⊥ = λ s. differ (eqb k place) ((Decides-eqb k place).1 s) e in
          tracked_old k c p differs (is.watching.tracked k c p at_k (sym (get-set_other w.pairs.items place k new differs) ∙ has))

      own_at : (k : ℕ) (c : List ℤ) (p : Pair) → slice_get (all_clauses formula learned) k ≡ Some c → slice_get (slice_set w.pairs.items place new) k ≡ Some p
          → (b : Bool) → eqb k place ≡ b → IsOf p c
      own_at k c p at_k has true e =
          let same : k ≡ place = (Decides-eqb k place).0 e in
          let one : Some c ≡ Some clause = sym at_k ∙ ap (slice_get (all_clauses formula learned)) same ∙ named in
          let clauses : c ≡ clause = cc in
          let two : Some p ≡ Some new = sym has ∙ ap (slice_get (slice_set w.pairs.items place new)) same ∙ get-set_same w.pairs.items place new within in
          let news : p ≡ new = cc in
          rw (clauses, news) (own, partner_own (is.watching.own place clause pair named paired))
      own_at k c p at_k has false e =
          let differs : k ≡ place → ⊥ = λ s. differ (eqb k place) ((Decides-eqb k place).1 s) e in
          is.watching.own k c p at_k (sym (get-set_other w.pairs.items place k new differs) ∙ has)

      done_at : (j k : ℕ) (c : List ℤ) (p : Pair) → j < at → slice_get (list_of w.watchers.items x) j ≡ Some k → slice_get (all_clauses formula learned) k ≡ Some c
          → slice_get (slice_set w.pairs.items place new) k ≡ Some p → is_of_pair p x ≡ true → (b : Bool) → eqb k place ≡ b → is_satisfied trail c ≡ true
      done_at j k c p h listed at_k has of true e =
          let same : k ≡ place = (Decides-eqb k place).0 e in
          let two : Some p ≡ Some new = sym has ∙ ap (slice_get (slice_set w.pairs.items place new)) same ∙ get-set_same w.pairs.items place new within in
          let news : p ≡ new = cc in
          let one : Some c ≡ Some clause = sym at_k ∙ ap (slice_get (all_clauses formula learned)) same ∙ named in
          let clauses : c ≡ clause = cc in
          ap (is_satisfied trail) clauses ∙ by_kind (is.watching.tracked place clause pair named paired) (ap (λ q. is_of_pair q x) (sym news) ∙ of)
        where
          by_kind : IsTracked w.watchers.items trail w.head place clause pair → (int_eq y x || int_eq (partner_of pair x) x) ≡ true → is_satisfied trail clause ≡ true
          by_kind (inl s) h = s.now
          by_kind (inr q) h = absurd (differ (int_eq y x || int_eq (partner_of pair x) x) h (rw (apart, (partner_watched q).2) refl))
      done_at j k c p h listed at_k has of false e =
          let differs : k ≡ place → ⊥ = λ s. differ (eqb k place) ((Decides-eqb k place).1 s) e in
          is.done j k c p h listed at_k (sym (get-set_other w.pairs.items place k new differs) ∙ has) of

-- ---- all watchers visited

among_at : (places : List ℕ) (k : ℕ) → is_among k places ≡ true → (j : ℕ) × (slice_get places j ≡ Some k)
among_at [] k h = absurd cc
among_at (p ∷ places) k h = by_test (p == k) refl h (among_at places k)
  where
    by_test : (b : Bool) → (p == k) ≡ b → (b || is_among k places) ≡ true → (is_among k places ≡ true → (j : ℕ) × (slice_get places j ≡ Some k)) → (j : ℕ) × (slice_get (p ∷ places) j ≡ Some k)
    by_test true e g rest = (zero, ap Some ((Decides-eqb p k).0 e))
    by_test false e g rest = let found = rest g in (suc found.0, found.1)

pub reading_ends : (formula : Formula) (learned : Derivation) (trail : List Entry) (w n : Watching) (x : ℤ) (at : ℕ) → length (list_of w.watchers.items x) ≤ at → IsReading formula learned trail w x at
    → n.watchers.items ≡ w.watchers.items → n.pairs.items ≡ w.pairs.items → n.head ≡ w.head + 1 → IsWatching formula learned trail n
reading_ends formula learned trail w n x at all is lists pairs head = record {
  lists = rw lists is.watching.lists;
  head = rw head (let inside = slice_get_within trail w.head found.0 found.1 in omega (arith, inside));
  decided = λ d h. let below = is.watching.decided d h in rw head (omega (arith, below));
  pairs = rw pairs is.watching.pairs;
  own = rw pairs is.watching.own;
  within = rw (lists, pairs) is.watching.within;
  blocked = rw lists is.watching.blocked;
  tracked = λ k clause pair named has. rw (lists, head) (by_kind k clause pair named (rw pairs at has) (is.watching.tracked k clause pair named (rw pairs at has)));
}
  where
    found : (e : Entry) × (slice_get trail w.head ≡ Some e) × (neg_ℤ e.literal ≡ x)
    found = some_entry trail w.head (λ e. neg_ℤ e.literal ≡ x) is.literal

    watched : (k : ℕ) (clause : List ℤ) (pair : Pair) (z : ℤ) → slice_get (all_clauses formula learned) k ≡ Some clause → slice_get w.pairs.items k ≡ Some pair → is_among k (list_of w.watchers.items z) ≡ true
        → (int_eq z x ≡ true → is_of_pair pair x ≡ true) → IsWatched trail w.head clause z → IsWatched trail (w.head + 1) clause z
    watched k clause pair z named has listed of q = record {
      now = λ h. by_side (or_cases _ _ (sym (true_next trail w.head found.0 (neg_ℤ z) found.1) ∙ h));
      before = q.before;
    }
      where
        by_side : (is_true (take w.head trail) (neg_ℤ z) ≡ true) ⊎ (int_eq found.0.literal (neg_ℤ z) ≡ true) → is_satisfied trail clause ≡ true
        by_side (inl h) = q.now h
        by_side (inr h) =
            let same : z ≡ x = sym (negated_twice z) ∙ ap neg_ℤ (sym (same_literal found.0.literal (neg_ℤ z) h)) ∙ found.2 in
            let place = among_at (list_of w.watchers.items x) k (ap (λ y. is_among k (list_of w.watchers.items y)) (sym same) ∙ listed) in
            let inside = slice_get_within (list_of w.watchers.items x) place.0 k place.1 in
            is.done place.0 k clause pair (omega (arith, inside, all)) place.1 named has (of (equal_literal z x same))

    by_kind : (k : ℕ) (clause : List ℤ) (pair : Pair) → slice_get (all_clauses formula learned) k ≡ Some clause → slice_get w.pairs.items k ≡ Some pair
        → IsTracked w.watchers.items trail w.head k clause pair → IsTracked w.watchers.items trail (w.head + 1) k clause pair
    by_kind k clause pair named has (inl s) = inl s
    by_kind k clause pair named has (inr q) = inr record {
      left = watched k clause pair pair.left named has q.left_listed (λ e. rw e refl) q.left;
      right = watched k clause pair pair.right named has q.right_listed (λ e. behind (int_eq pair.left x) _ e) q.right;
      differ = q.differ;
      left_listed = q.left_listed;
      right_listed = q.right_listed;
    }
      where
        behind : (a b : Bool) → b ≡ true → (a || b) ≡ true
        behind true b h = refl
        behind false b h = h

-- ---- all entries read

place-neg : (x : ℤ) → place (neg_ℤ x) ≡ place x
place-neg (pos zero) = refl
place-neg (pos (suc n)) = refl
place-neg (negsuc n) = refl

not_its_negation : (n : ℕ) (x : ℤ) → IsOver n x → x ≡ neg_ℤ x → ⊥
not_its_negation n (pos zero) over e = absurd (omega (arith, over.0))
not_its_negation n (pos (suc k)) over e = absurd cc
not_its_negation n (negsuc k) over e = absurd cc

-- no literal is true and false
pub never_both : (n : ℕ) (trail : List Entry) (y : ℤ) → IsTrail n trail → is_true trail y ≡ true → is_true trail (neg_ℤ y) ≡ true → ⊥
never_both n [] y is t f = absurd cc
never_both n (e ∷ trail) y is t f =
    by_tests (int_eq e.literal y) (int_eq e.literal (neg_ℤ y)) refl refl t f
    (never_both n trail y record { over = and_right _ _ is.over; distinct = IsDistinct-tail eqb (place e.literal) (places trail) is.distinct })
  where
    head : AllByRecursion (λ q. eqb (place e.literal) q ≡ false) (places trail)
    head = IsDistinct-head eqb (place e.literal) (places trail) is.distinct

    by_tests : (a b : Bool) → int_eq e.literal y ≡ a → int_eq e.literal (neg_ℤ y) ≡ b → (a || is_true trail y) ≡ true → (b || is_true trail (neg_ℤ y)) ≡ true
        → (is_true trail y ≡ true → is_true trail (neg_ℤ y) ≡ true → ⊥) → ⊥
    by_tests true true g h p q rest =
        let own = same_literal e.literal y g in
        let other = same_literal e.literal (neg_ℤ y) h in
        not_its_negation n e.literal (is_over-tells n e.literal (and_left _ _ is.over)) (other ∙ ap neg_ℤ (sym own))
    by_tests true false g h p q rest = absent trail (place e.literal) (neg_ℤ y) head (place-neg y ∙ ap place (sym (same_literal e.literal y g))) q
    by_tests false true g h p q rest = absent trail (place e.literal) y head (sym (place-neg y) ∙ ap place (sym (same_literal e.literal (neg_ℤ y) h))) p
    by_tests false false g h p q rest = rest p q

any_has : (set : ℤ → Bool) (xs : List ℤ) → list_any set xs ≡ true → (y : ℤ) × (has_literal xs y ≡ true) × (set y ≡ true)
any_has set [] h = absurd cc
any_has set (x ∷ xs) h = by_test (set x) refl h (any_has set xs)
  where
    later : (a b : Bool) → b ≡ true → (a || b) ≡ true
    later true b g = refl
    later false b g = g

    by_test : (b : Bool) → set x ≡ b → (b || list_any set xs) ≡ true → (list_any set xs ≡ true → (y : ℤ) × (has_literal xs y ≡ true) × (set y ≡ true))
        → (y : ℤ) × (has_literal (x ∷ xs) y ≡ true) × (set y ≡ true)
    by_test true e g rest = (x, rw (equal_literal x x refl) refl, e)
    by_test false e g rest = let found = rest g in (found.0, later (int_eq x found.0) _ found.1, found.2)

pub conflict_false : (set : ℤ → Bool) (xs : List ℤ) (y : ℤ) → is_conflict set xs ≡ true → has_literal xs y ≡ true → set (neg_ℤ y) ≡ true
conflict_false set [] y c h = absurd cc
conflict_false set (x ∷ xs) y c h = by_test (int_eq x y) refl h (conflict_false set xs y (and_right _ _ c))
  where
    by_test : (b : Bool) → int_eq x y ≡ b → (b || has_literal xs y) ≡ true → (has_literal xs y ≡ true → set (neg_ℤ y) ≡ true) → set (neg_ℤ y) ≡ true
    by_test true e g rest = ap (λ z. set (neg_ℤ z)) (sym (same_literal x y e)) ∙ and_left _ _ c
    by_test false e g rest = rest g

open_not_true : (a b : Bool) → not (a || b) ≡ true → a ≡ false
open_not_true true b h = absurd cc
open_not_true false b h = refl

module _ (n : ℕ) (trail : List Entry) (kept : IsTrail n trail) where
  abbrev Tells : List ℤ → Type 0
  Tells clause = (is_conflict (is_true trail) clause ≡ false) × (is_some (unit_of (is_true trail) clause) ≡ false)

  -- a clause that is satisfied isn't false, and has no one open literal all others being false
  pub satisfied_tells : (clause : List ℤ) → is_satisfied trail clause ≡ true → Tells clause
  satisfied_tells clause h = (by_test (is_conflict (is_true trail) clause) refl, by_unit (unit_of (is_true trail) clause) refl)
    where
      found : (y : ℤ) × (has_literal clause y ≡ true) × (is_true trail y ≡ true)
      found = any_has (is_true trail) clause h

      by_test : (b : Bool) → is_conflict (is_true trail) clause ≡ b → is_conflict (is_true trail) clause ≡ false
      by_test false e = e
      by_test true e = absurd (never_both n trail found.0 kept found.2 (conflict_false (is_true trail) clause found.0 e found.1))

      by_unit : (u : Option ℤ) → unit_of (is_true trail) clause ≡ u → is_some u ≡ false
      by_unit None e = refl
      by_unit (Some x) e =
          let implied = unit_implies trail clause x e in
          let free = open_not_true _ _ (unit_is trail clause x e).1 in
          absurd (never_both n trail found.0 kept found.2 (implied.others found.0 found.1 (λ same. differ (is_true trail found.0) found.2 (ap (is_true trail) same ∙ free))))

  pub quiet_clause : (watchers : List (Vec Watcher)) (head place : ℕ) (clause : List ℤ) (pair : Pair) → length trail ≤ head → IsOf pair clause → IsTracked watchers trail head place clause pair → Tells clause
  quiet_clause watchers head place clause pair all own (inl s) = satisfied_tells clause s.now
  quiet_clause watchers head place clause pair all own (inr q) = (by_test (is_conflict (is_true trail) clause) refl, by_unit (unit_of (is_true trail) clause) refl)
    where
      on_left : is_true trail (neg_ℤ pair.left) ≡ true → Tells clause
      on_left h = satisfied_tells clause (q.left.now (ap (λ t. is_true t (neg_ℤ pair.left)) (take_all head trail all) ∙ h))

      on_right : is_true trail (neg_ℤ pair.right) ≡ true → Tells clause
      on_right h = satisfied_tells clause (q.right.now (ap (λ t. is_true t (neg_ℤ pair.right)) (take_all head trail all) ∙ h))

      by_test : (b : Bool) → is_conflict (is_true trail) clause ≡ b → is_conflict (is_true trail) clause ≡ false
      by_test false e = e
      by_test true e = (on_left (conflict_false (is_true trail) clause pair.left e own.0)).0

      by_unit : (u : Option ℤ) → unit_of (is_true trail) clause ≡ u → is_some u ≡ false
      by_unit None e = refl
      by_unit (Some x) e = by_left (int_eq pair.left x) refl
        where
          implied : Implies trail x clause
          implied = unit_implies trail clause x e

          none : Tells clause → is_some (Some x) ≡ false
          none tells = ap is_some (sym e) ∙ tells.1

          by_left : (b : Bool) → int_eq pair.left x ≡ b → is_some (Some x) ≡ false
          by_left false f = none (on_left (implied.others pair.left own.0 (λ same. differ (int_eq pair.left x) (equal_literal pair.left x same) f)))
          by_left true f = none (on_right (implied.others pair.right own.1 (λ same. differ (int_eq pair.left pair.right) (equal_literal pair.left pair.right (same_literal pair.left x f ∙ sym same)) q.differ)))

none_any : (test : List ℤ → Bool) (clauses : List (List ℤ)) → ((k : ℕ) (clause : List ℤ) → slice_get clauses k ≡ Some clause → test clause ≡ false) → list_any test clauses ≡ false
none_any test [] each = refl
none_any test (c ∷ cs) each = rw (each zero c refl) (none_any test cs (λ k clause at. each (suc k) clause at))

pub quiet_all : (formula : Formula) (learned : Derivation) (trail : List Entry) (w : Watching) → IsTrail formula.variables trail → length trail ≤ w.head → length (all_clauses formula learned) ≤ length w.pairs.items
    → IsWatching formula learned trail w → IsScan (is_true trail) (all_clauses formula learned) scan.Neither
quiet_all formula learned trail w kept read full is = (
  none_any (is_conflict (is_true trail)) (all_clauses formula learned) (λ k clause at. (each k clause at).0),
  none_any (λ clause. is_some (unit_of (is_true trail) clause)) (all_clauses formula learned) (λ k clause at. (each k clause at).1),
)
  where
    each : (k : ℕ) (clause : List ℤ) → slice_get (all_clauses formula learned) k ≡ Some clause → (is_conflict (is_true trail) clause ≡ false) × (is_some (unit_of (is_true trail) clause) ≡ false)
    each k clause at =
        let within = slice_get_within (all_clauses formula learned) k clause at in
        let pair = get_or w.pairs.items k record { left = pos 0; right = pos 0 } in
        let has : slice_get w.pairs.items k ≡ Some pair = slice_get-get_or w.pairs.items k record { left = pos 0; right = pos 0 } (omega (arith, within, full)) in
        quiet_clause formula.variables trail kept w.watchers.items w.head k clause pair read (is.own k clause pair at has) (is.tracked k clause pair at has)

-- ---- lists of watchers, one taken away after one was added

module _ (w n : Watching) (mid : List (Vec Watcher)) (x : ℤ) (at place taken : ℕ) (pair : Pair)
    (own : list_of mid pair.left ≡ list_of w.watchers.items pair.left ++ place ∷ []) (others : (z : ℤ) → int_eq z pair.left ≡ false → list_of mid z ≡ list_of w.watchers.items z)
    (here : slice_get (list_of w.watchers.items x) at ≡ Some place) (apart : int_eq pair.left x ≡ false)
    (result : slice_get (list_of mid x) at ≡ Some taken)
    (front : (j : ℕ) → j < at → slice_get (list_of n.watchers.items x) j ≡ slice_get (list_of mid x) j)
    (rest : (k : ℕ) → is_among k (list_of mid x) ≡ (taken == k || is_among k (list_of n.watchers.items x)))
    (others_kept : (z : ℤ) → int_eq z x ≡ false → list_of n.watchers.items z ≡ list_of mid z) where
  same : list_of mid x ≡ list_of w.watchers.items x
  same = others x (int_eq-sym x pair.left ∙ apart)

  is_place : taken ≡ place
  is_place = let one : Some taken ≡ Some place = sym result ∙ ap (λ l. slice_get l at) same ∙ here in cc

  grown : (k : ℕ) → is_among k (list_of mid pair.left) ≡ (is_among k (list_of w.watchers.items pair.left) || (place == k || false))
  grown k = ap (is_among k) own ∙ list_any-append (λ p. p == k) (list_of w.watchers.items pair.left) (place ∷ [])

  keeps : (z : ℤ) (k : ℕ) → is_among k (list_of w.watchers.items z) ≡ true → (int_eq z x ≡ true → place ≡ k → ⊥) → is_among k (list_of n.watchers.items z) ≡ true
  keeps z k h differs = by_test (int_eq z x) refl
    where
      by_taken : (b : Bool) → (taken == k) ≡ b → int_eq z x ≡ true → (b || is_among k (list_of n.watchers.items x)) ≡ true → is_among k (list_of n.watchers.items x) ≡ true
      by_taken true e f g = absurd (differs f (sym is_place ∙ (Decides-eqb taken k).0 e))
      by_taken false e f g = g

      by_left : (b : Bool) → int_eq z pair.left ≡ b → is_among k (list_of mid z) ≡ true
      by_left true e = let z_is = same_literal z pair.left e in ap (λ y. is_among k (list_of mid y)) z_is ∙ grown k ∙ rw (ap (λ y. is_among k (list_of w.watchers.items y)) (sym z_is) ∙ h) refl
      by_left false e = ap (is_among k) (others z e) ∙ h

      by_test : (b : Bool) → int_eq z x ≡ b → is_among k (list_of n.watchers.items z) ≡ true
      by_test true e =
          let z_is = same_literal z x e in
          ap (λ y. is_among k (list_of n.watchers.items y)) z_is ∙ by_taken (taken == k) refl e (sym (rest k) ∙ ap (is_among k) same ∙ ap (λ y. is_among k (list_of w.watchers.items y)) (sym z_is) ∙ h)
      by_test false e = ap (is_among k) (others_kept z e) ∙ by_left (int_eq z pair.left) refl

  only : (z : ℤ) (k : ℕ) → is_among k (list_of n.watchers.items z) ≡ true → (is_among k (list_of w.watchers.items z) ≡ true) ⊎ (k ≡ place)
  only z k h = by_test (int_eq z x) refl
    where
      behind : (a b : Bool) → b ≡ true → (a || b) ≡ true
      behind true b g = refl
      behind false b g = g

      by_new : (z ≡ pair.left) → (is_among k (list_of w.watchers.items pair.left) ≡ true) ⊎ ((place == k || false) ≡ true) → (is_among k (list_of w.watchers.items z) ≡ true) ⊎ (k ≡ place)
      by_new z_is (inl g) = inl (ap (λ y. is_among k (list_of w.watchers.items y)) z_is ∙ g)
      by_new z_is (inr g) = inr (sym ((Decides-eqb place k).0 (single (place == k) g)))
        where
          single : (b : Bool) → (b || false) ≡ true → b ≡ true
          single true f = refl
          single false f = f

      by_left : (b : Bool) → int_eq z pair.left ≡ b → is_among k (list_of mid z) ≡ true → (is_among k (list_of w.watchers.items z) ≡ true) ⊎ (k ≡ place)
      by_left true e g = let z_is = same_literal z pair.left e in by_new z_is (or_cases _ _ (sym (grown k) ∙ ap (λ y. is_among k (list_of mid y)) (sym z_is) ∙ g))
      by_left false e g = inl (ap (is_among k) (sym (others z e)) ∙ g)

      by_test : (b : Bool) → int_eq z x ≡ b → (is_among k (list_of w.watchers.items z) ≡ true) ⊎ (k ≡ place)
      by_test true e =
          let z_is = same_literal z x e in
          inl (ap (λ y. is_among k (list_of w.watchers.items y)) z_is ∙ ap (is_among k) (sym same) ∙ rest k ∙ behind (taken == k) _ (ap (λ y. is_among k (list_of n.watchers.items y)) (sym z_is) ∙ h))
      by_test false e = by_left (int_eq z pair.left) refl (ap (is_among k) (sym (others_kept z e)) ∙ h)

  by_places : n.pairs.items ≡ slice_set w.pairs.items place pair → n.head ≡ w.head → length n.watchers.items ≡ length w.watchers.items
      → length (watchers_of n.watchers.items x) + 1 ≡ length (watchers_of w.watchers.items x)
      → ((test : Watcher → Bool) → test record { place = place; blocker = pair.right } ≡ true → AllPassing test w.watchers.items → AllPassing test n.watchers.items) → IsRewatched w n x at place pair
  by_places pairs head lists shorter passing = record {
    pairs = pairs;
    head = head;
    lists = lists;
    keeps = keeps;
    only = only;
    adds = ap (is_among place) (others_kept pair.left apart) ∙ grown place ∙ behind (is_among place (list_of w.watchers.items pair.left)) _ (rw ((Decides-eqb place place).1 refl) refl);
    front = λ j h. front j h ∙ ap (λ l. slice_get l j) same;
    shorter = shorter;
    passing = passing;
  }
    where
      behind : (a b : Bool) → b ≡ true → (a || b) ≡ true
      behind true b g = refl
      behind false b g = g

pub rewatched : (w n : Watching) (mid : List (Vec Watcher)) (x : ℤ) (at place : ℕ) (taken : Watcher) (pair : Pair)
    → watchers_of mid pair.left ≡ watchers_of w.watchers.items pair.left ++ record { place = place; blocker = pair.right } ∷ []
    → ((z : ℤ) → int_eq z pair.left ≡ false → watchers_of mid z ≡ watchers_of w.watchers.items z) → slice_get (list_of w.watchers.items x) at ≡ Some place → int_eq pair.left x ≡ false
    → slice_get (watchers_of mid x) at ≡ Some taken → length (watchers_of n.watchers.items x) + 1 ≡ length (watchers_of mid x)
    → ((j : ℕ) → j < at → slice_get (watchers_of n.watchers.items x) j ≡ slice_get (watchers_of mid x) j)
    → ((test : Watcher → Bool) → list_any test (watchers_of mid x) ≡ (test taken || list_any test (watchers_of n.watchers.items x)))
    → ((z : ℤ) → int_eq z x ≡ false → watchers_of n.watchers.items z ≡ watchers_of mid z)
    → n.pairs.items ≡ slice_set w.pairs.items place pair → n.head ≡ w.head → length n.watchers.items ≡ length w.watchers.items → IsRewatched w n x at place pair
rewatched w n mid x at place taken pair own others here apart result shorter front rest kept pairs head lists =
    by_places w n mid x at place taken.place pair
    (ap (map clause_place) own ∙ map-append clause_place (watchers_of w.watchers.items pair.left) (record { place = place; blocker = pair.right } ∷ []))
    (λ z h. ap (map clause_place) (others z h)) here apart (place_at (watchers_of mid x) at taken result)
    (λ j h. slice_get-map clause_place (watchers_of n.watchers.items x) j ∙ ap (option_map clause_place) (front j h) ∙ sym (slice_get-map clause_place (watchers_of mid x) j))
    (λ k. among_places (watchers_of mid x) k ∙ rest (λ v. clause_place v == k) ∙ ap (λ b. taken.place == k || b) (sym (among_places (watchers_of n.watchers.items x) k)))
    (λ z h. ap (map clause_place) (kept z h)) pairs head lists (shorter ∙ ap length (others x (int_eq-sym x pair.left ∙ apart)))
    (λ test new all. passing_removed test mid n.watchers.items x taken rest kept (passing_added test w.watchers.items mid pair.left record { place = place; blocker = pair.right } own others new all))

-- ---- lists of watchers, one added

module _ (old new : List (Vec Watcher)) (y : ℤ) (place : ℕ) (own : list_of new y ≡ list_of old y ++ place ∷ []) (others : (z : ℤ) → int_eq z y ≡ false → list_of new z ≡ list_of old z) where
  added : (k : ℕ) → is_among k (list_of new y) ≡ (is_among k (list_of old y) || (place == k || false))
  added k = ap (is_among k) own ∙ list_any-append (λ p. p == k) (list_of old y) (place ∷ [])

  pub added_keeps : (x : ℤ) (k : ℕ) → is_among k (list_of old x) ≡ true → is_among k (list_of new x) ≡ true
  added_keeps x k h = by_test (int_eq x y) refl
    where
      by_test : (b : Bool) → int_eq x y ≡ b → is_among k (list_of new x) ≡ true
      by_test true e = let same = same_literal x y e in ap (λ z. is_among k (list_of new z)) same ∙ added k ∙ rw (ap (λ z. is_among k (list_of old z)) (sym same) ∙ h) refl
      by_test false e = ap (is_among k) (others x e) ∙ h

  pub added_only : (x : ℤ) (k : ℕ) → is_among k (list_of new x) ≡ true → (is_among k (list_of old x) ≡ true) ⊎ (k ≡ place)
  added_only x k h = by_test (int_eq x y) refl
    where
      by_side : (x ≡ y) → (is_among k (list_of old y) ≡ true) ⊎ ((place == k || false) ≡ true) → (is_among k (list_of old x) ≡ true) ⊎ (k ≡ place)
      by_side e (inl g) = inl (ap (λ z. is_among k (list_of old z)) e ∙ g)
      by_side e (inr g) = inr (sym ((Decides-eqb place k).0 (single (place == k) g)))
        where
          single : (b : Bool) → (b || false) ≡ true → b ≡ true
          single true f = refl
          single false f = f

      by_test : (b : Bool) → int_eq x y ≡ b → (is_among k (list_of old x) ≡ true) ⊎ (k ≡ place)
      by_test true e = let same = same_literal x y e in by_side same (or_cases _ _ (sym (added k) ∙ ap (λ z. is_among k (list_of new z)) (sym same) ∙ h))
      by_test false e = inl (ap (is_among k) (sym (others x e)) ∙ h)

  pub added_own : is_among place (list_of new y) ≡ true
  added_own = added place ∙ behind (is_among place (list_of old y)) _ (rw ((Decides-eqb place place).1 refl) refl)
    where
      behind : (a b : Bool) → b ≡ true → (a || b) ≡ true
      behind true b g = refl
      behind false b g = g

pub paired : (w n : Watching) (mid : List (Vec Watcher)) (place : ℕ) (pair : Pair)
    → watchers_of mid pair.left ≡ watchers_of w.watchers.items pair.left ++ record { place = place; blocker = pair.right } ∷ []
    → ((z : ℤ) → int_eq z pair.left ≡ false → watchers_of mid z ≡ watchers_of w.watchers.items z)
    → watchers_of n.watchers.items pair.right ≡ watchers_of mid pair.right ++ record { place = place; blocker = pair.left } ∷ []
    → ((z : ℤ) → int_eq z pair.right ≡ false → watchers_of n.watchers.items z ≡ watchers_of mid z)
    → n.pairs.items ≡ w.pairs.items ++ pair ∷ [] → n.head ≡ w.head → length n.watchers.items ≡ length w.watchers.items → IsPaired w n place pair
paired w n mid place pair added others added_right others_beside pairs head lists = record {
  pairs = pairs;
  head = head;
  lists = lists;
  keeps = λ x k h. added_keeps mid n.watchers.items pair.right place own_right others_right x k (added_keeps w.watchers.items mid pair.left place own others_left x k h);
  only = λ x k h. by_side x k (added_only mid n.watchers.items pair.right place own_right others_right x k h);
  left_listed = added_keeps mid n.watchers.items pair.right place own_right others_right pair.left place (added_own w.watchers.items mid pair.left place own others_left);
  right_listed = added_own mid n.watchers.items pair.right place own_right others_right;
  passing = λ test left right all.
      passing_added test mid n.watchers.items pair.right record { place = place; blocker = pair.left } added_right others_beside right
      (passing_added test w.watchers.items mid pair.left record { place = place; blocker = pair.right } added others left all);
}
  where
    own : list_of mid pair.left ≡ list_of w.watchers.items pair.left ++ place ∷ []
    own = ap (map clause_place) added ∙ map-append clause_place (watchers_of w.watchers.items pair.left) (record { place = place; blocker = pair.right } ∷ [])

    others_left : (z : ℤ) → int_eq z pair.left ≡ false → list_of mid z ≡ list_of w.watchers.items z
    others_left z h = ap (map clause_place) (others z h)

    own_right : list_of n.watchers.items pair.right ≡ list_of mid pair.right ++ place ∷ []
    own_right = ap (map clause_place) added_right ∙ map-append clause_place (watchers_of mid pair.right) (record { place = place; blocker = pair.left } ∷ [])

    others_right : (z : ℤ) → int_eq z pair.right ≡ false → list_of n.watchers.items z ≡ list_of mid z
    others_right z h = ap (map clause_place) (others_beside z h)

    by_side : (x : ℤ) (k : ℕ) → (is_among k (list_of mid x) ≡ true) ⊎ (k ≡ place) → (is_among k (list_of w.watchers.items x) ≡ true) ⊎ (k ≡ place)
    by_side x k (inl h) = added_only w.watchers.items mid pair.left place own others_left x k h
    by_side x k (inr h) = inr h
