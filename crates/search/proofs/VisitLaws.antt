-- What the visit of a watcher keeps.
use Rattle.std.proofs.Common.{◌≡◌, ℕ, zero, suc, ◌+◌, ◌<◌, ◌≤◌, Bool, true, false, List, [], ◌∷◌, length, get_or, pos, refl, sym, ◌∙◌, ap, arith, Option, None, Some, length-set}
use Rattle.std.specs.Prelude.{ℤ, neg_ℤ, slice_get, ◌==◌, IfOk, IsSomeAnd, Result, Ok, Err, if◌then◌else◌}
use Rattle.std.specs.List.{list_all}
use Rattle.std.specs.Ordering.{int_eq}
use Rattle.std.proofs.lemmas.Bool.Decides.{Decides-eqb}
use mathlib.Core.Path.{subst}
use Rattle.std.proofs.lemmas.Option.{get_or_from_slice_get, slice_get-get_or}
use Rattle.cnf.specs.declared.derivation.Derivation.{Derivation}
use Rattle.cnf.specs.declared.formula.Formula.{Formula}
use Rattle.cnf.specs.Checks.{numbered}
use Rattle.cnf.specs.Clauses.{has_literal, literal_key}
use Rattle.cnf.proofs.ClauseLaws.{equal_literal, same_literal}
use Rattle.cnf.specs.literal_marks.Marks.{marked}
use Rattle.cnf.specs.declared.literal_marks.places.Places.TheVariants.{ByKey}
use Rattle.search.specs.declared.machine.Machine.{Machine}
use Rattle.search.specs.declared.moves.Move.TheVariants as move
use Rattle.fq_core.specs.declared.memory.Memory.{Memory}
use Rattle.search.specs.declared.reading.Visit.{Visit}
use Rattle.search.specs.declared.reading.Visit.TheVariants as visit
use Rattle.search.specs.declared.trail.Entry.{Entry}
use Rattle.search.specs.declared.watching.Pair.{Pair}
use Rattle.search.specs.declared.watching.Watcher.{Watcher}
use Rattle.search.specs.declared.watching.Watching.{Watching}
use Rattle.search.specs.At.{IsAt, IsHeld}
use Rattle.search.specs.Conflicts.{IsConflicting}
use Rattle.search.specs.Laws.{is_over}
use Rattle.search.specs.Machine.{IsOver, Moves, is_conflict, is_true, unit_of, with_entry}
use Rattle.search.specs.Nexts.{state_of}
use Rattle.search.specs.Readings.{IsImplied, IsReading, IsRewatched, IsSearching, IsVisit, IsVisiting}
use Rattle.search.specs.Sound.{all_clauses}
use Rattle.search.specs.Visits.{partner_of}
use Rattle.search.specs.Watching.{IsOf, IsWatching, is_among, is_blocked, is_satisfied, list_of, watchers_of}
use Rattle.search.proofs.BackLaws.{negated-over, negated_twice, or_behind, over_at, some_entry}
use Rattle.search.proofs.KeptLaws.{has_over, is_over-tells, numbered_over, unit_is}
use Rattle.search.proofs.ListsLaws.{passing_at, place_at}
use Rattle.search.proofs.LookLaws.{satisfied_by}
use Rattle.search.proofs.NextLaws.{same_clauses}
use Rattle.search.proofs.ReadLaws.{reading_ends, reading_moved, reading_next, reading_on}
use Rattle.search.proofs.ScanLaws.{numbered_next}

-- ---- the clause of a watcher

among_from : (places : List ℕ) (j k : ℕ) → slice_get places j ≡ Some k → is_among k places ≡ true
among_from [] j k h = absurd cc
among_from (p ∷ places) zero k h = let same : p ≡ k = cc in rw ((Decides-eqb p k).1 same) refl
among_from (p ∷ places) (suc j) k h = or_behind (p == k) _ (among_from places j k h)

pub record Watched (formula : Formula) (learned : Derivation) (w : Watching) (place : ℕ) : Type 0 where
  pub clause : List ℤ
  pub pair : Pair
  pub named : slice_get (all_clauses formula learned) place ≡ Some clause
  pub paired : slice_get w.pairs.items place ≡ Some pair
  pub own : IsOf pair clause

pub watched_at : (formula : Formula) (learned : Derivation) (trail : List Entry) (w : Watching) (x : ℤ) (at place : ℕ) → IsWatching formula learned trail w → slice_get (list_of w.watchers.items x) at ≡ Some place
    → Watched formula learned w place
watched_at formula learned trail w x at place is here =
    let inside = is.within x place (among_from (list_of w.watchers.items x) at place here) in
    let few = is.pairs in
    let clause = get_or (all_clauses formula learned) place [] in
    let pair = get_or w.pairs.items place record { left = pos 0; right = pos 0 } in
    let named : slice_get (all_clauses formula learned) place ≡ Some clause = slice_get-get_or (all_clauses formula learned) place [] (omega (arith, inside, few)) in
    let paired : slice_get w.pairs.items place ≡ Some pair = slice_get-get_or w.pairs.items place record { left = pos 0; right = pos 0 } inside in
    record { clause = clause; pair = pair; named = named; paired = paired; own = is.own place clause pair named paired }

pub partner_in : (pair : Pair) (clause : List ℤ) (x : ℤ) → IsOf pair clause → has_literal clause (partner_of pair x) ≡ true
partner_in pair clause x of = by_test (int_eq pair.left x)
  where
    by_test : (b : Bool) → has_literal clause (if b then pair.right else pair.left) ≡ true
    by_test true = of.1
    by_test false = of.0

pub at_place : (formula : Formula) (learned : Derivation) (place : ℕ) (clause : List ℤ) → slice_get (all_clauses formula learned) place ≡ Some clause → numbered (all_clauses formula learned) (place + 1) ≡ Some clause
at_place formula learned place clause named = numbered_next (all_clauses formula learned) place ∙ named

pub literal_over : (formula : Formula) (learned : Derivation) (place : ℕ) (clause : List ℤ) (y : ℤ) → list_all (list_all (is_over formula.variables)) (all_clauses formula learned) ≡ true
    → slice_get (all_clauses formula learned) place ≡ Some clause → has_literal clause y ≡ true → IsOver formula.variables y
literal_over formula learned place clause y over named has =
    is_over-tells formula.variables y (has_over formula.variables clause y (numbered_over formula.variables (all_clauses formula learned) (place + 1) clause over (at_place formula learned place clause named)) has)

-- the literal that is read is false, and so no other one that isn't
pub apart_from_read : (trail : List Entry) (head : ℕ) (x y : ℤ) → IsSomeAnd (slice_get trail head) (λ e. neg_ℤ e.literal ≡ x) → is_true trail (neg_ℤ y) ≡ false → int_eq y x ≡ false
apart_from_read trail head x y read free = by_test (int_eq y x) refl
  where
    true_here : (t : List Entry) (i : ℕ) (e : Entry) → slice_get t i ≡ Some e → is_true t e.literal ≡ true
    true_here [] i e h = absurd cc
    true_here (f ∷ t) zero e h = let same : f ≡ e = cc in rw (equal_literal f.literal e.literal (ap (λ (g : Entry). g.literal) same)) refl
    true_here (f ∷ t) (suc i) e h = or_behind (int_eq f.literal e.literal) _ (true_here t i e h)

    by_test : (b : Bool) → int_eq y x ≡ b → int_eq y x ≡ false
    by_test false e = e
    by_test true e =
        let found = some_entry trail head (λ (f : Entry). neg_ℤ f.literal ≡ x) read in
        let same : neg_ℤ y ≡ found.0.literal = ap neg_ℤ (same_literal y x e ∙ sym found.2) ∙ negated_twice found.0.literal in
        let no : true ≡ false = sym (true_here trail head found.0 found.1) ∙ ap (is_true trail) (sym same) ∙ free in
        absurd cc

-- ---- propagations

pub unit_moves : (formula : Formula) (learned : Derivation) (trail : List Entry) (place : ℕ) (clause : List ℤ) (y : ℤ) → slice_get (all_clauses formula learned) place ≡ Some clause
    → unit_of (is_true trail) clause ≡ Some y → Moves formula (state_of trail learned) (move.Propagate (place + 1)) record { trail = with_entry trail y (Some (place + 1)); learned = learned.lines }
unit_moves formula learned trail place clause y named unit = record {
  clause = clause;
  literal = y;
  named = ap (λ clauses. numbered clauses (place + 1)) (same_clauses formula learned trail) ∙ at_place formula learned place clause named;
  unit = unit;
  gives = refl;
}

pub visiting_unit : (formula : Formula) (budget : ℕ) (m n : Machine) (w : Watching) (x : ℤ) (at place : ℕ) (clause : List ℤ) (y : ℤ) → IsVisiting formula budget m w x at
    → slice_get (list_of w.watchers.items x) at ≡ Some place → slice_get (all_clauses formula m.learned) place ≡ Some clause → unit_of (is_true m.trail.items) clause ≡ Some y
    → IsAt formula n → n.trail.items ≡ with_entry m.trail.items y (Some (place + 1)) → n.learned ≡ m.learned → length n.moves.items ≡ length m.moves.items + 1 → length m.moves.items < budget
    → IsVisiting formula budget n w x (at + 1)
visiting_unit formula budget m n w x at place clause y is here named unit now trail learned moves paid = record {
  searching = record {
    at = now;
    watching = reading.watching;
    full = rw learned is.searching.full;
    paid = omega (arith, moves, paid);
  };
  reading = reading;
}
  where
    e : Entry
    e = record { literal = y; reason = Some (place + 1) }

    own : is_true (with_entry m.trail.items y (Some (place + 1))) y ≡ true
    own = at_end m.trail.items
      where
        at_end : (t : List Entry) → is_true (with_entry t y (Some (place + 1))) y ≡ true
        at_end [] = rw (equal_literal y y refl) refl
        at_end (f ∷ t) = or_behind (int_eq f.literal y) _ (at_end t)

    reading : IsReading formula n.learned n.trail.items w x (at + 1)
    reading =
        rw (trail, learned)
        (reading_next formula m.learned (with_entry m.trail.items y (Some (place + 1))) w x at place clause here named
        (satisfied_by (is_true (with_entry m.trail.items y (Some (place + 1)))) clause y (unit_is m.trail.items clause y unit).0 own)
        (reading_on formula m.learned m.trail.items w x at y (place + 1) is.reading))

-- ---- clauses that are satisfied, or false

pub visiting_satisfied : (formula : Formula) (budget : ℕ) (m : Machine) (w : Watching) (x : ℤ) (at place : ℕ) (clause : List ℤ) → IsVisiting formula budget m w x at
    → slice_get (list_of w.watchers.items x) at ≡ Some place → slice_get (all_clauses formula m.learned) place ≡ Some clause → is_satisfied m.trail.items clause ≡ true → IsVisiting formula budget m w x (at + 1)
visiting_satisfied formula budget m w x at place clause is here named own =
    record { searching = is.searching; reading = reading_next formula m.learned m.trail.items w x at place clause here named own is.reading }

pub visiting_conflict : (formula : Formula) (m : Machine) (place : ℕ) (clause : List ℤ) → slice_get (all_clauses formula m.learned) place ≡ Some clause → is_conflict (is_true m.trail.items) clause ≡ true
    → IsConflicting formula m (place + 1)
visiting_conflict formula m place clause named own = rw (at_place formula m.learned place clause named) own

-- a watcher whose blocking literal is true
pub visiting_blocked : (formula : Formula) (budget : ℕ) (m : Machine) (w : Watching) (x : ℤ) (at : ℕ) (watcher : Watcher) → IsVisiting formula budget m w x at
    → slice_get (watchers_of w.watchers.items x) at ≡ Some watcher → IsOver formula.variables watcher.blocker × (is_true m.trail.items watcher.blocker ≡ true → IsVisiting formula budget m w x (at + 1))
visiting_blocked formula budget m w x at watcher is here =
    let listed = place_at (watchers_of w.watchers.items x) at watcher here in
    let found = watched_at formula m.learned m.trail.items w x at watcher.place is.reading.watching listed in
    let blocked = passing_at (is_blocked (all_clauses formula m.learned)) (watchers_of w.watchers.items x) at watcher (is.reading.watching.blocked x) here in
    let has : has_literal found.clause watcher.blocker ≡ true = rw found.named at blocked in (
      literal_over formula m.learned watcher.place found.clause watcher.blocker is.searching.at.held.sound.clauses found.named has,
      λ own. visiting_satisfied formula budget m w x at watcher.place found.clause is listed found.named (satisfied_by (is_true m.trail.items) found.clause watcher.blocker has own),
    )

-- ---- another literal watched

pub visiting_moved : (formula : Formula) (budget : ℕ) (m : Machine) (w n : Watching) (x : ℤ) (at place : ℕ) (clause : List ℤ) (pair : Pair) (y : ℤ) → IsVisiting formula budget m w x at
    → slice_get (list_of w.watchers.items x) at ≡ Some place → slice_get (all_clauses formula m.learned) place ≡ Some clause → slice_get w.pairs.items place ≡ Some pair
    → has_literal clause y ≡ true → is_true m.trail.items (neg_ℤ y) ≡ false → int_eq y (partner_of pair x) ≡ false
    → IsRewatched w n x at place record { left = y; right = partner_of pair x } → IsVisiting formula budget m n x at
visiting_moved formula budget m w n x at place clause pair y is here named paired own free other gives = record {
  searching = record {
    at = is.searching.at;
    watching = reading.watching;
    full = rw (gives.pairs, length-set) is.searching.full;
    paid = is.searching.paid;
  };
  reading = reading;
}
  where
    reading : IsReading formula m.learned m.trail.items n x at
    reading =
        reading_moved formula m.learned m.trail.items w n x y at place clause pair is.reading here named paired own free other
        (apart_from_read m.trail.items w.head x y is.reading.literal free) gives

-- ---- steps of a visit

pub opened : {X : Type 0} (found : Option X) (P : X → Type 0) → IsSomeAnd found P → (x : X) × (found ≡ Some x) × P x
opened None P h = absurd h
opened (Some x) P h = (x, refl, h)

pub record Visited (formula : Formula) (learned : Derivation) (w : Watching) (x : ℤ) (place : ℕ) (other : ℤ) : Type 0 where
  pub clause : List ℤ
  pub pair : Pair
  pub named : slice_get (all_clauses formula learned) place ≡ Some clause
  pub paired : slice_get w.pairs.items place ≡ Some pair
  pub has : has_literal clause other ≡ true
  pub is : other ≡ partner_of pair x

pub visited_at : (formula : Formula) (learned : Derivation) (trail : List Entry) (w : Watching) (x : ℤ) (at place : ℕ) (other : ℤ) (read : Pair) → IsWatching formula learned trail w
    → slice_get (list_of w.watchers.items x) at ≡ Some place → read ≡ get_or w.pairs.items place read → other ≡ partner_of read x → Visited formula learned w x place other
visited_at formula learned trail w x at place other read is here index gives =
    let found = watched_at formula learned trail w x at place is here in
    let same : read ≡ found.pair = index ∙ get_or_from_slice_get w.pairs.items place found.pair read found.paired in
    let own : other ≡ partner_of found.pair x = gives ∙ ap (λ p. partner_of p x) same in
    record {
      clause = found.clause;
      pair = found.pair;
      named = found.named;
      paired = found.paired;
      has = rw own (partner_in found.pair found.clause x found.own);
      is = own;
    }

pub visit_implied : (formula : Formula) (budget : ℕ) (m n : Machine) (w : Watching) (x : ℤ) (at place : ℕ) (clause : List ℤ) (y : ℤ) → IsVisiting formula budget m w x at
    → slice_get (list_of w.watchers.items x) at ≡ Some place → slice_get (all_clauses formula m.learned) place ≡ Some clause → unit_of (is_true m.trail.items) clause ≡ Some y
    → (r : Result Visit Memory) → IfOk r (IsImplied formula budget m n y place) → IfOk r (IsVisit formula budget w n w x at)
visit_implied formula budget m n w x at place clause y is here named unit (Err e) h = tt
visit_implied formula budget m n w x at place clause y is here named unit (Ok visit.Stays) h = (visiting_unit formula budget m n w x at place clause y is here named unit h.0 h.1 h.2 h.3 h.4, refl)
visit_implied formula budget m n w x at place clause y is here named unit (Ok visit.Leaves) h = absurd h
visit_implied formula budget m n w x at place clause y is here named unit (Ok (visit.Conflict number)) h = absurd h
visit_implied formula budget m n w x at place clause y is here named unit (Ok visit.Spent) h = (rw h.0 is.searching.at, h.1)

-- the table of values shows the trail
pub shown : (formula : Formula) (m : Machine) (P : (ℤ → Bool) → Type 0) → IsHeld formula m → P (marked ByKey m.values.items) → P (is_true m.trail.items)
shown formula m P held h = let same : marked ByKey m.values.items ≡ is_true m.trail.items = λ i x. held.values x i in subst P same h

-- ---- one literal read

pub visiting_begins : (formula : Formula) (budget : ℕ) (m : Machine) (w : Watching) (x : ℤ) → IsSearching formula budget m w → IsSomeAnd (slice_get m.trail.items w.head) (λ e. neg_ℤ e.literal ≡ x)
    → IsVisiting formula budget m w x 0
visiting_begins formula budget m w x is literal = record {
  searching = is;
  reading = record { watching = is.watching; literal = literal; done = λ j k clause pair h listed named has of. absurd (omega (arith, h)) };
}

pub literal_read : (formula : Formula) (budget : ℕ) (m : Machine) (w n : Watching) (x : ℤ) (at : ℕ) → length (list_of w.watchers.items x) ≤ at → IsVisiting formula budget m w x at
    → n.watchers.items ≡ w.watchers.items → n.pairs.items ≡ w.pairs.items → n.head ≡ w.head + 1 → IsSearching formula budget m n
literal_read formula budget m w n x at all is lists pairs head = record {
  at = is.searching.at;
  watching = reading_ends formula m.learned m.trail.items w n x at all is.reading lists pairs head;
  full = rw pairs is.searching.full;
  paid = is.searching.paid;
}

pub read_room : (formula : Formula) (budget : ℕ) (m : Machine) (w : Watching) (x : ℤ) (at : ℕ) → IsVisiting formula budget m w x at → literal_key x < length w.watchers.items
read_room formula budget m w x at is =
    let found = opened (slice_get m.trail.items w.head) (λ (e : Entry). neg_ℤ e.literal ≡ x) is.reading.literal in
    let over : IsOver formula.variables x = rw (sym found.2) (negated-over formula.variables found.0.literal (over_at formula.variables m.trail.items w.head found.0 is.searching.at.held.sound.kept.over found.1)) in
    let high = over.1 in
    let lists = is.reading.watching.lists in
    omega (arith, high, lists)
