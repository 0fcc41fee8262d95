-- What watched literals keep, as the trail grows and is cut.
use Rattle.std.proofs.Common.{◌≡◌, ◌⊎◌, ℕ, zero, suc, ◌<◌, ◌≤◌, Bool, true, false, ◌||◌, List, [], ◌∷◌, ◌++◌, length, take, refl, sym, ◌∙◌, ap, arith, Option, None, Some}
use mathlib.Core.Logic.{inl, inr}
use Rattle.std.specs.Prelude.{ℤ, neg_ℤ, slice_get}
use Rattle.std.specs.List.{list_any}
use Rattle.std.specs.Ordering.{int_eq}
use Rattle.std.specs.Global.{Vec}
use Rattle.std.proofs.lemmas.List.{length-append, length-take-le, take_all}
use Rattle.std.proofs.lemmas.List.Folds.{list_any-append}
use Rattle.std.proofs.lemmas.Option.{slice_get_within}
use Rattle.cnf.specs.declared.derivation.Derivation.{Derivation}
use Rattle.cnf.specs.declared.derivation.DerivationLine.{DerivationLine}
use Rattle.cnf.specs.declared.formula.Formula.{Formula}
use Rattle.search.specs.declared.trail.Entry.{Entry}
use Rattle.search.specs.declared.watching.Pair.{Pair}
use Rattle.search.specs.declared.watching.Watcher.{Watcher}
use Rattle.search.specs.declared.watching.Watching.{Watching}
use Rattle.search.specs.Machine.{is_true, with_entry}
use Rattle.search.specs.Sound.{all_clauses}
use Rattle.search.specs.Watching.{AllPassing, IsDecidedAt, IsOf, IsSatisfied, IsTracked, IsWatched, IsWatching, is_among, is_blocked, is_satisfied, list_of, watchers_of}
use Rattle.search.proofs.BackLaws.{some_entry}
use Rattle.search.proofs.ListsLaws.{blocked_more, passing_more}
use Rattle.search.proofs.MachineLaws.{get_before, get_taken, with_line}

-- ---- satisfied clauses

any_more : (p q : ℤ → Bool) (xs : List ℤ) → ((x : ℤ) → p x ≡ true → q x ≡ true) → list_any p xs ≡ true → list_any q xs ≡ true
any_more p q [] each h = absurd cc
any_more p q (x ∷ xs) each h = by_test (p x) refl h (any_more p q xs each)
  where
    later : (a b : Bool) → b ≡ true → (a || b) ≡ true
    later true b g = refl
    later false b g = g

    by_test : (b : Bool) → p x ≡ b → (b || list_any p xs) ≡ true → (list_any p xs ≡ true → list_any q xs ≡ true) → (q x || list_any q xs) ≡ true
    by_test true e g rest = rw (each x e) refl
    by_test false e g rest = later (q x) _ (rest g)

pub true_more : (trail : List Entry) (e : Entry) (x : ℤ) → is_true trail x ≡ true → is_true (trail ++ e ∷ []) x ≡ true
true_more trail e x h = list_any-append (λ f. int_eq f.literal x) trail (e ∷ []) ∙ rw h refl

pub satisfied_more : (trail : List Entry) (e : Entry) (clause : List ℤ) → is_satisfied trail clause ≡ true → is_satisfied (trail ++ e ∷ []) clause ≡ true
satisfied_more trail e clause h = any_more (is_true trail) (is_true (trail ++ e ∷ [])) clause (λ x own. true_more trail e x own) h

-- ---- the trail grows

take_front : (trail : List Entry) (e : Entry) (k : ℕ) → k ≤ length trail → take k (trail ++ e ∷ []) ≡ take k trail
take_front trail e zero h = refl
take_front [] e (suc k) h = absurd (omega arith)
take_front (f ∷ trail) e (suc k) h = ap (λ zs. f ∷ zs) (take_front trail e k (omega arith))

module _ (trail : List Entry) (x : ℤ) (reason : Option ℕ) (head : ℕ) (inside : head ≤ length trail) (last : reason ≡ None → head ≡ length trail) where
  abbrev e : Entry
  e = record { literal = x; reason = reason }

  pub satisfied_on : (clause : List ℤ) → IsSatisfied trail clause → IsSatisfied (with_entry trail x reason) clause
  satisfied_on clause is = record {
    now = satisfied_more trail e clause is.now;
    before = λ d decided. let at = some_entry (trail ++ e ∷ []) d (λ f. f.reason ≡ None) decided in by_side d at.0 at.2 (get_before trail e d at.0 at.1);
  }
    where
      by_side : (d : ℕ) (f : Entry) → f.reason ≡ None → ((slice_get trail d ≡ Some f) × (take d (trail ++ e ∷ []) ≡ take d trail)) ⊎ ((f ≡ e) × (take d (trail ++ e ∷ []) ≡ trail))
          → is_satisfied (take d (trail ++ e ∷ [])) clause ≡ true
      by_side d f none (inl h) = ap (λ t. is_satisfied t clause) h.1 ∙ is.before d (rw h.0 none)
      by_side d f none (inr h) = ap (λ t. is_satisfied t clause) h.1 ∙ is.now

  pub watched_on : (clause : List ℤ) (w : ℤ) → IsWatched trail head clause w → IsWatched (with_entry trail x reason) head clause w
  watched_on clause w is = record {
    now = λ h. satisfied_more trail e clause (is.now (ap (λ t. is_true t (neg_ℤ w)) (sym (take_front trail e head inside)) ∙ h));
    before = λ d decided h. let at = some_entry (trail ++ e ∷ []) d (λ f. f.reason ≡ None) decided in by_side d at.0 at.2 h (get_before trail e d at.0 at.1);
  }
    where
      by_side : (d : ℕ) (f : Entry) → f.reason ≡ None → is_true (take d (trail ++ e ∷ [])) (neg_ℤ w) ≡ true
          → ((slice_get trail d ≡ Some f) × (take d (trail ++ e ∷ []) ≡ take d trail)) ⊎ ((f ≡ e) × (take d (trail ++ e ∷ []) ≡ trail))
          → is_satisfied (take d (trail ++ e ∷ [])) clause ≡ true
      by_side d f none t (inl h) = ap (λ s. is_satisfied s clause) h.1 ∙ is.before d (rw h.0 none) (ap (λ s. is_true s (neg_ℤ w)) (sym h.1) ∙ t)
      by_side d f none t (inr h) =
          let own : reason ≡ None = sym (ap (λ (g : Entry). g.reason) h.0) ∙ none in
          let all : take head trail ≡ trail = take_all head trail (let at = last own in omega (arith, at)) in
          ap (λ s. is_satisfied s clause) h.1 ∙ is.now (ap (λ s. is_true s (neg_ℤ w)) (all ∙ sym h.1) ∙ t)

  pub tracked_on : (watchers : List (Vec Watcher)) (place : ℕ) (clause : List ℤ) (pair : Pair) → IsTracked watchers trail head place clause pair → IsTracked watchers (with_entry trail x reason) head place clause pair
  tracked_on watchers place clause pair (inl is) = inl (satisfied_on clause is)
  tracked_on watchers place clause pair (inr is) = inr record {
    left = watched_on clause pair.left is.left;
    right = watched_on clause pair.right is.right;
    differ = is.differ;
    left_listed = is.left_listed;
    right_listed = is.right_listed;
  }

  pub decided_on : (d : ℕ) → ((c : ℕ) → IsDecidedAt trail c → c ≤ head) → IsDecidedAt (with_entry trail x reason) d → d ≤ head
  decided_on d before decided =
      let at = some_entry (trail ++ e ∷ []) d (λ f. f.reason ≡ None) decided in
      by_side at.0 at.1 at.2 (get_before trail e d at.0 at.1)
    where
      by_side : (f : Entry) → slice_get (trail ++ e ∷ []) d ≡ Some f → f.reason ≡ None
          → ((slice_get trail d ≡ Some f) × (take d (trail ++ e ∷ []) ≡ take d trail)) ⊎ ((f ≡ e) × (take d (trail ++ e ∷ []) ≡ trail)) → d ≤ head
      by_side f at none (inl h) = before d (rw h.0 none)
      by_side f at none (inr h) =
          let own : reason ≡ None = sym (ap (λ (g : Entry). g.reason) h.0) ∙ none in
          let within = slice_get_within (trail ++ e ∷ []) d f at in
          let count = length-append trail (e ∷ []) in
          let ends = last own in
          omega (arith, within, count, ends)

pub watching_on : (formula : Formula) (learned : Derivation) (trail : List Entry) (w : Watching) (x : ℤ) (reason : Option ℕ) → (reason ≡ None → w.head ≡ length trail)
    → IsWatching formula learned trail w → IsWatching formula learned (with_entry trail x reason) w
watching_on formula learned trail w x reason last is = record {
  lists = is.lists;
  head = let count = length-append trail (record { literal = x; reason = reason } ∷ []) in omega (arith, count, is.head);
  decided = λ d h. decided_on trail x reason w.head is.head last d is.decided h;
  pairs = is.pairs;
  tracked = λ k clause pair at own. tracked_on trail x reason w.head is.head last w.watchers.items k clause pair (is.tracked k clause pair at own);
  own = is.own;
  within = is.within;
  blocked = is.blocked;
}

-- ---- the trail is cut

module _ (trail : List Entry) (cut : ℕ) (decided : IsDecidedAt trail cut) where
  twice : take cut (take cut trail) ≡ take cut trail
  twice = again cut trail
    where
      again : (k : ℕ) (t : List Entry) → take k (take k t) ≡ take k t
      again zero t = refl
      again (suc k) [] = refl
      again (suc k) (f ∷ t) = ap (λ zs. f ∷ zs) (again k t)

  earlier : (d : ℕ) → IsDecidedAt (take cut trail) d → IsDecidedAt trail d × (take d (take cut trail) ≡ take d trail)
  earlier d h =
      let at = some_entry (take cut trail) d (λ f. f.reason ≡ None) h in
      let taken = get_taken trail cut d at.0 at.1 in
      (rw taken.0 at.2, taken.1)

  pub satisfied_back : (clause : List ℤ) → IsSatisfied trail clause → IsSatisfied (take cut trail) clause
  satisfied_back clause is = record {
    now = is.before cut decided;
    before = λ d h. let own = earlier d h in ap (λ t. is_satisfied t clause) own.1 ∙ is.before d own.0;
  }

  pub watched_back : (head : ℕ) (clause : List ℤ) (w : ℤ) → IsWatched trail head clause w → IsWatched (take cut trail) cut clause w
  watched_back head clause w is = record {
    now = λ h. is.before cut decided (ap (λ t. is_true t (neg_ℤ w)) (sym twice) ∙ h);
    before = λ d h t. let own = earlier d h in ap (λ s. is_satisfied s clause) own.1 ∙ is.before d own.0 (ap (λ s. is_true s (neg_ℤ w)) (sym own.1) ∙ t);
  }

  pub tracked_back : (watchers : List (Vec Watcher)) (head place : ℕ) (clause : List ℤ) (pair : Pair) → IsTracked watchers trail head place clause pair → IsTracked watchers (take cut trail) cut place clause pair
  tracked_back watchers head place clause pair (inl is) = inl (satisfied_back clause is)
  tracked_back watchers head place clause pair (inr is) = inr record {
    left = watched_back head clause pair.left is.left;
    right = watched_back head clause pair.right is.right;
    differ = is.differ;
    left_listed = is.left_listed;
    right_listed = is.right_listed;
  }

  pub watching_back : (formula : Formula) (learned : Derivation) (w n : Watching) → n.watchers.items ≡ w.watchers.items → n.pairs.items ≡ w.pairs.items → n.head ≡ cut
      → IsWatching formula learned trail w → IsWatching formula learned (take cut trail) n
  watching_back formula learned w n lists pairs head is = record {
    lists = rw lists is.lists;
    head = rw (head, full) (omega arith);
    decided = λ d h. let below = before d h in rw head (omega (arith, below));
    pairs = rw pairs is.pairs;
    tracked = λ k clause pair at own. rw (lists, head) (tracked_back w.watchers.items w.head k clause pair (is.tracked k clause pair at (rw pairs at own)));
    own = rw pairs is.own;
    within = rw (lists, pairs) is.within;
    blocked = rw lists is.blocked;
  }
    where
      full : length (take cut trail) ≡ cut
      full = let at = some_entry trail cut (λ f. f.reason ≡ None) decided in let within = slice_get_within trail cut at.0 at.1 in length-take-le cut trail (omega (arith, within))

      before : (d : ℕ) → IsDecidedAt (take cut trail) d → d < cut
      before d h = let at = some_entry (take cut trail) d (λ f. f.reason ≡ None) h in let within = slice_get_within (take cut trail) d at.0 at.1 in omega (arith, within, full)

-- ---- one more clause

get_behind : {X : Type 0} (xs : List X) (y : X) (k : ℕ) (x : X) → slice_get (xs ++ y ∷ []) k ≡ Some x → (slice_get xs k ≡ Some x) ⊎ ((k ≡ length xs) × (x ≡ y))
get_behind [] y zero x at = inr (refl, cc)
get_behind [] y (suc k) x at = absurd cc
get_behind (z ∷ xs) y zero x at = inl at
get_behind (z ∷ xs) y (suc k) x at = by_side (get_behind xs y k x at)
  where
    by_side : (slice_get xs k ≡ Some x) ⊎ ((k ≡ length xs) × (x ≡ y)) → (slice_get xs k ≡ Some x) ⊎ ((suc k ≡ suc (length xs)) × (x ≡ y))
    by_side (inl h) = inl h
    by_side (inr h) = inr (ap suc h.0, h.1)

pub watching_learned : (formula : Formula) (learned more : Derivation) (trail : List Entry) (w : Watching) (line : DerivationLine) → more ≡ record { lines = learned.lines ++ line ∷ [] }
    → IsWatching formula learned trail w → IsWatching formula more trail w
watching_learned formula learned more trail w line gives is = record {
  lists = is.lists;
  head = is.head;
  decided = is.decided;
  pairs = let count = length-append (all_clauses formula learned) (line.clause ∷ []) in rw all (omega (arith, count, is.pairs));
  tracked = λ k clause pair at own. is.tracked k clause pair (named k clause pair own (get_behind (all_clauses formula learned) line.clause k clause (rw all at at))) own;
  own = λ k clause pair at own. is.own k clause pair (named k clause pair own (get_behind (all_clauses formula learned) line.clause k clause (rw all at at))) own;
  within = is.within;
  blocked = λ x. rw all (passing_more (is_blocked (all_clauses formula learned)) (is_blocked (all_clauses formula learned ++ line.clause ∷ [])) (watchers_of w.watchers.items x) (λ v. blocked_more (all_clauses formula learned) line.clause v) (is.blocked x));
}
  where
    all : all_clauses formula more ≡ all_clauses formula learned ++ line.clause ∷ []
    all = ap (all_clauses formula) gives ∙ with_line formula learned line

    named : (k : ℕ) (clause : List ℤ) (pair : Pair) → slice_get w.pairs.items k ≡ Some pair
        → (slice_get (all_clauses formula learned) k ≡ Some clause) ⊎ ((k ≡ length (all_clauses formula learned)) × (clause ≡ line.clause)) → slice_get (all_clauses formula learned) k ≡ Some clause
    named k clause pair own (inl h) = h
    named k clause pair own (inr h) = let within = slice_get_within w.pairs.items k pair own in let few = is.pairs in let at = h.0 in absurd (omega (arith, within, few, at))

-- ---- one more pair

pub tracked_listed : (watchers more : List (Vec Watcher)) (trail : List Entry) (head place : ℕ) (clause : List ℤ) (pair : Pair)
    → ((x : ℤ) → is_among place (list_of watchers x) ≡ true → is_among place (list_of more x) ≡ true) → IsTracked watchers trail head place clause pair → IsTracked more trail head place clause pair
tracked_listed watchers more trail head place clause pair each (inl is) = inl is
tracked_listed watchers more trail head place clause pair each (inr is) = inr record {
  left = is.left;
  right = is.right;
  differ = is.differ;
  left_listed = each pair.left is.left_listed;
  right_listed = each pair.right is.right_listed;
}

pub watching_paired : (formula : Formula) (learned : Derivation) (trail : List Entry) (w n : Watching) (pair : Pair) (clause : List ℤ)
    → slice_get (all_clauses formula learned) (length w.pairs.items) ≡ Some clause → n.pairs.items ≡ w.pairs.items ++ pair ∷ [] → n.head ≡ w.head → length n.watchers.items ≡ length w.watchers.items
    → ((x : ℤ) (k : ℕ) → is_among k (list_of w.watchers.items x) ≡ true → is_among k (list_of n.watchers.items x) ≡ true)
    → ((x : ℤ) (k : ℕ) → is_among k (list_of n.watchers.items x) ≡ true → (is_among k (list_of w.watchers.items x) ≡ true) ⊎ (k ≡ length w.pairs.items))
    → IsOf pair clause → IsTracked n.watchers.items trail w.head (length w.pairs.items) clause pair → AllPassing (is_blocked (all_clauses formula learned)) n.watchers.items
    → IsWatching formula learned trail w → IsWatching formula learned trail n
watching_paired formula learned trail w n pair clause named pairs head lists each only own tracked blocked is = record {
  lists = lists ∙ is.lists;
  head = rw head is.head;
  decided = rw head is.decided;
  pairs =
      let within = slice_get_within (all_clauses formula learned) (length w.pairs.items) clause named in
      let count = length-append w.pairs.items (pair ∷ []) in
      rw pairs (omega (arith, count, within));
  tracked = λ k c p at has. rw head (by_side k c p at (get_behind w.pairs.items pair k p (rw pairs at has)));
  own = λ k c p at has. own_by k c p at (get_behind w.pairs.items pair k p (rw pairs at has));
  within = λ x k h. rw pairs (below k (kept x k (only x k h)));
  blocked = blocked;
}
  where
    kept : (x : ℤ) (k : ℕ) → (is_among k (list_of w.watchers.items x) ≡ true) ⊎ (k ≡ length w.pairs.items) → k ≤ length w.pairs.items
    kept x k (inl h) = let inside = is.within x k h in omega (arith, inside)
    kept x k (inr h) = omega (arith, h)

    below : (k : ℕ) → k ≤ length w.pairs.items → k < length (w.pairs.items ++ pair ∷ [])
    below k h = let count = length-append w.pairs.items (pair ∷ []) in omega (arith, count)

    own_by : (k : ℕ) (c : List ℤ) (p : Pair) → slice_get (all_clauses formula learned) k ≡ Some c → (slice_get w.pairs.items k ≡ Some p) ⊎ ((k ≡ length w.pairs.items) × (p ≡ pair)) → IsOf p c
    own_by k c p at (inl h) = is.own k c p at h
    own_by k c p at (inr h) =
        let same : Some c ≡ Some clause = sym at ∙ ap (slice_get (all_clauses formula learned)) h.0 ∙ named in
        let clauses : c ≡ clause = cc in
        rw (h.1, clauses) own

    by_side : (k : ℕ) (c : List ℤ) (p : Pair) → slice_get (all_clauses formula learned) k ≡ Some c → (slice_get w.pairs.items k ≡ Some p) ⊎ ((k ≡ length w.pairs.items) × (p ≡ pair))
        → IsTracked n.watchers.items trail w.head k c p
    by_side k c p at (inl h) = tracked_listed w.watchers.items n.watchers.items trail w.head k c p (λ x. each x k) (is.tracked k c p at h)
    by_side k c p at (inr h) =
        let same : Some c ≡ Some clause = sym at ∙ ap (slice_get (all_clauses formula learned)) h.0 ∙ named in
        let clauses : c ≡ clause = cc in
        rw (h.0, h.1, clauses) tracked
