-- Words that are picked out because they may go along a path.
use Rattle.std.proofs.Common.{◌≡◌, ℕ, zero, suc, ◌+◌, ◌≤◌, ◌<◌, ◌==◌, inl, inr, Bool, true, false, not, List, [], ◌∷◌, length, cond, Option, Some, None, refl, sym, ◌∙◌, ap, subst, arith, eqb-true, eq-eqb}
use Rattle.std.specs.Prelude.{slice_get, slice_index}
use Rattle.std.specs.Int.{bit_at}
use Rattle.std.specs.Int.Bits.{bit_and, bit_or}
use Rattle.std.specs.List.{Contains, filter, list_all}
use Rattle.std.proofs.lemmas.Bool.{cases_lt, false≢true}
use Rattle.std.proofs.lemmas.List.{get_or_default}
use Rattle.std.proofs.lemmas.Nat.Bits.{bit_at-lt, bit_at_and, bit_at_or}
use Rattle.patterns.specs.declared.path_view.PathView.{PathView}
use Rattle.patterns.specs.Paths.{IsPath}
use Rattle.goals.specs.GoalForm.{GoalForm}
use Rattle.goals.specs.Words.{Word}
use Rattle.goals.specs.declared.goal_letter.GoalLetter.{GoalLetter}
use Rattle.goals.specs.declared.goal_letter.GoalLetter.TheVariants.{Node, Edge, Predicate, Absent, Quoted}
use Rattle.measurer_index.specs.word_index.Numbers.{Adds}
use Rattle.measurer_index.specs.word_index.Order.{AreAbsentsBelow, IsSortedFrom}
use Rattle.measurer_index.specs.word_index.Walks.{Goes, Walks, word_at}
use Rattle.measurer_index.specs.word_index.Groups.{Continues, GoesOn, IsGroup, IsTest, Started}
use Rattle.measurer_index.specs.word_index.Tables.{begins_with_step, root}
use Rattle.measurer_index.specs.word_index.Tests.{AreBitsOf, AreTestsAlong, may_be_met, may_go}
use Rattle.measurer_index.proofs.word_index.Begun.{root_group}
use Rattle.measurer_index.proofs.word_index.Going.{walks_forward}
use Rattle.measurer_index.proofs.word_index.Starts.{sorted_filter}
use Rattle.measurer_index.proofs.word_index.Steps.{adds_none, adds_same}

-- ---- bits

set_bit : (mask p : ℕ) → (bit_at mask p == 1) ≡ true → bit_at mask p ≡ 1
set_bit mask p e = eqb-true _ 1 e

bits_of_or : (a b : ℕ) → AreBitsOf a (bit_or a b)
bits_of_or a b p e =
    let one = set_bit a p e in
    let both = bit_at_or a b p in
    let small = bit_at-lt b p in
    eq-eqb _ 1 (omega arith)

bits_of_or_right : (a b : ℕ) → AreBitsOf b (bit_or a b)
bits_of_or_right a b p e =
    let one = set_bit b p e in
    let both = bit_at_or a b p in
    let small = bit_at-lt a p in
    eq-eqb _ 1 (omega arith)

bits_of_and : (a b : ℕ) → AreBitsOf (bit_and a b) a
bits_of_and a b p e =
    let one = set_bit (bit_and a b) p e in
    let both = bit_at_and a b p in
    let small = bit_at-lt a p in
    eq-eqb _ 1 (omega arith)

bits_of_and_right : (a b : ℕ) → AreBitsOf (bit_and a b) b
bits_of_and_right a b p e =
    let one = set_bit (bit_and a b) p e in
    let both = bit_at_and a b p in
    let small = bit_at-lt b p in
    eq-eqb _ 1 (omega arith)

-- one more mask
pub somewhere_more : (masks : List ℕ) (i before : ℕ) → ((at : ℕ) → at < i → AreBitsOf (slice_index masks at) before) → (at : ℕ) → at < i + 1 → AreBitsOf (slice_index masks at) (bit_or before (slice_index masks i))
somewhere_more masks i before old at lt p e = elim (cases_lt at i) [
  | inl below ↦ bits_of_or before (slice_index masks i) p (old at below p e)
  | inr above ↦ let same : at ≡ i = omega arith in bits_of_or_right before (slice_index masks i) p (subst (λ k. (bit_at (slice_index masks k) p == 1) ≡ true) same e)
]

pub everywhere_more : (masks : List ℕ) (i before : ℕ) → ((at : ℕ) → at < i → AreBitsOf before (slice_index masks at)) → (at : ℕ) → at < i + 1 → AreBitsOf (bit_and before (slice_index masks i)) (slice_index masks at)
everywhere_more masks i before old at lt p e = elim (cases_lt at i) [
  | inl below ↦ old at below p (bits_of_and before (slice_index masks i) p e)
  | inr above ↦ let same : at ≡ i = omega arith in subst (λ k. (bit_at (slice_index masks k) p == 1) ≡ true) (sym same) (bits_of_and_right before (slice_index masks i) p e)
]

-- ---- words that go along the path are picked

module _ (path : PathView) (is : IsPath path) (somewhere everywhere : ℕ) (some : (at : ℕ) → at < length path.masks → AreBitsOf (slice_index path.masks at) somewhere) (every : (at : ℕ) → at < length path.masks → AreBitsOf everywhere (slice_index path.masks at)) where
  not_there : (b : Bool) → (b ≡ true → ⊥) → not b ≡ true
  not_there true h = absurd (h refl)
  not_there false h = refl

  met : (l : GoalLetter) (from to : ℕ) → Goes path l from to → from < length path.masks → may_be_met somewhere everywhere l ≡ true
  met (Edge e) from to g lt = refl
  met (Node n) from to g lt = refl
  met (Predicate p) from to g lt = some from lt p g.1
  met (Absent p) from to g lt = not_there (bit_at everywhere p == 1) (λ e. let there = every from lt p e in false≢true (sym g.1 ∙ there))
  met (Quoted q) from to g lt = absurd g

  all_met : (w : Word) (from to : ℕ) → Walks path w from to → to ≤ length path.edges → list_all (may_be_met somewhere everywhere) w ≡ true
  all_met [] from to h within = refl
  all_met (l ∷ w) from to (m, (g, h)) within =
      let forward = walks_forward path (l ∷ w) from to (m, (g, h)) in
      rw (met l from m g (omega (arith, is.masks_fit)), all_met w m to h within) refl

  pub picked : (w : Word) (from to : ℕ) → IsTest (slice_get w 0) → Walks path w from to → to ≤ length path.edges → may_go somewhere everywhere w ≡ true
  picked w from to test h within = rw (begins (slice_get w 0) test, all_met w from to h within) refl
    where
      begins : (o : Option GoalLetter) → IsTest o → begins_with_step o ≡ false
      begins None h = absurd h
      begins (Some (Node m)) h = absurd h
      begins (Some (Edge m)) h = absurd h
      begins (Some (Predicate p)) h = refl
      begins (Some (Absent p)) h = refl
      begins (Some (Quoted q)) h = absurd h

-- ---- walks of the picked words

contains_filter : (keeps : ℕ → Bool) (xs : List ℕ) (x : ℕ) → Contains xs x → keeps x ≡ true → Contains (filter keeps xs) x
contains_filter keeps [] x (k, lt, e) kept = absurd (omega arith)
contains_filter keeps (y ∷ ys) x (zero, lt, e) kept = subst (λ b. Contains (cond b (y ∷ filter keeps ys) (filter keeps ys)) x) (sym (ap keeps e ∙ kept)) (zero, omega arith, e)
contains_filter keeps (y ∷ ys) x (suc k, lt, e) kept = by_test (keeps y) (contains_filter keeps ys x (k, omega arith, e) kept)
  where
    by_test : (b : Bool) → Contains (filter keeps ys) x → Contains (cond b (y ∷ filter keeps ys) (filter keeps ys)) x
    by_test true h = (suc h.0, omega (arith, h.1), h.2)
    by_test false h = h

filter_contains : (keeps : ℕ → Bool) (xs : List ℕ) (x : ℕ) → Contains (filter keeps xs) x → Contains xs x
filter_contains keeps [] x h = h
filter_contains keeps (y ∷ ys) x h = by_test (λ f. filter_contains keeps ys x f) (keeps y) h
  where
    further : Contains ys x → Contains (y ∷ ys) x
    further f = (suc f.0, omega (arith, f.1), f.2)

    by_test : (Contains (filter keeps ys) x → Contains ys x) → (b : Bool) → Contains (cond b (y ∷ filter keeps ys) (filter keeps ys)) x → Contains (y ∷ ys) x
    by_test rest true (zero, lt, e) = (zero, omega arith, e)
    by_test rest true (suc k, lt, e) = further (rest (k, omega arith, e))
    by_test rest false f = further (rest f)

module _ (goals : List GoalForm) (order some : List ℕ) (absents : ℕ) (path : PathView) (last : Bool) (along : AreTestsAlong goals path order some) where
  pub picked_group : IsSortedFrom goals order 0 0 (length order) → AreAbsentsBelow goals absents → IsGroup goals some (root some absents)
  picked_group sorted below = root_group goals some absents (subst (λ xs. IsSortedFrom goals xs 0 0 (length xs)) (sym along.filtered) (sorted_filter goals along.keeps order sorted)) below

  -- the same number, by another list of places that has its place
  moved : (xs ys : List ℕ) (at n : ℕ) (c : Continues goals xs path last IsTest (root xs absents) at n) → Contains ys (slice_index xs c.rank) → Continues goals ys path last IsTest (root ys absents) at n
  moved xs ys at n c found =
      let same : slice_index ys found.0 ≡ slice_index xs c.rank = get_or_default ys found.0 0 (slice_index xs c.rank) found.1 ∙ found.2 in
      record {
        rank = found.0;
        from = omega arith;
        below = found.1;
        is = c.is ∙ ap suc (sym same);
        head = subst (λ k. IsTest (slice_get (word_at goals k) 0)) (sym same) c.head;
        goes = subst (λ k. GoesOn path last (word_at goals k) at) (sym same) c.goes;
      }

  place_of : (xs : List ℕ) (r : ℕ) → r < length xs → Contains xs (slice_index xs r)
  place_of xs r lt = (r, lt, get_or_default xs r (slice_index xs r) 0 lt)

  to_all : (at n : ℕ) → Continues goals some path last IsTest (root some absents) at n → Continues goals order path last IsTest (root order absents) at n
  to_all at n c = moved some order at n c (filter_contains along.keeps order (slice_index some c.rank) (subst (λ xs. Contains xs (slice_index some c.rank)) along.filtered (place_of some c.rank c.below)))

  from_all : (at n : ℕ) → Continues goals order path last IsTest (root order absents) at n → Continues goals some path last IsTest (root some absents) at n
  from_all at n c =
      let goes = c.goes in
      let kept = along.enough (slice_index order c.rank) at goes.to c.head goes.walks goes.within in
      moved order some at n c (subst (λ xs. Contains xs (slice_index order c.rank)) (sym along.filtered) (contains_filter along.keeps order (slice_index order c.rank) (place_of order c.rank c.below) kept))

  -- all walks of words that begin with a test are walks of picked ones
  pub picked_all : (count : ℕ) (xs ys : List ℕ) → Adds (Started goals some path last IsTest (root some absents) count) xs ys → Adds (Started goals order path last IsTest (root order absents) count) xs ys
  picked_all count xs ys h = adds_same _ (Started goals order path last IsTest (root order absents) count) xs ys (λ n (at, (lt, c)). (at, (lt, to_all at n c))) (λ n (at, (lt, c)). (at, (lt, from_all at n c))) h

  pub picked_none : length some ≡ 0 → (count : ℕ) (xs : List ℕ) → Adds (Started goals order path last IsTest (root order absents) count) xs xs
  picked_none none count xs = adds_none _ xs (λ n (at, (lt, c)). let d = from_all at n c in let below : d.rank < length some = d.below in absurd (omega arith))
