-- What a round of the search keeps.
use Rattle.std.proofs.Common.{◌≡◌, ◌⊎◌, ℕ, ◌+◌, ◌<◌, ◌≤◌, Bool, true, false, ◌||◌, List, [], ◌∷◌, ◌++◌, length, take, refl, sym, ◌∙◌, ap, arith, None, Some, length-append}
use mathlib.Core.Logic.{inl, inr}
use Rattle.std.specs.Prelude.{ℤ, neg_ℤ, not, slice_get}
use Rattle.std.specs.Ordering.{int_eq}
use Rattle.std.proofs.lemmas.List.{length-take-le}
use Rattle.std.proofs.lemmas.Option.{slice_get_within}
use Rattle.cnf.specs.declared.derivation.DerivationLine.{DerivationLine}
use Rattle.cnf.specs.declared.formula.Formula.{Formula}
use Rattle.cnf.specs.Clauses.{has_literal}
use Rattle.cnf.proofs.ClauseLaws.{equal_literal}
use Rattle.cnf.proofs.literal_marks.MarksLaws.{int_eq-sym}
use Rattle.search.specs.declared.found.Found.{Found}
use Rattle.search.specs.declared.found.Found.TheVariants as found
use Rattle.search.specs.declared.landing.Landing.{Landing}
use Rattle.search.specs.declared.machine.Machine.{Machine}
use Rattle.search.specs.declared.moves.Move.TheVariants as move
use Rattle.search.specs.declared.trail.Entry.{Entry}
use Rattle.search.specs.declared.watching.Watching.{Watching}
use Rattle.search.specs.At.{IsAt}
use Rattle.search.specs.Conflicts.{IsConflicting}
use Rattle.search.specs.Lessons.{IsLesson}
use Rattle.search.specs.Machine.{IsOver, Moves, is_true, with_entry}
use Rattle.search.specs.Nexts.{IsEnd, jumped, state_of}
use Rattle.search.specs.Readings.{IsSearching}
use Rattle.search.specs.Sound.{all_clauses}
use Rattle.search.specs.Watching.{IsDecidedAt, IsPaired, IsWatching, is_among, is_blocked, is_satisfied, list_of}
use Rattle.search.proofs.BackLaws.{or_behind, some_entry, true_later}
use Rattle.search.proofs.KeptLaws.{has_over, is_over-tells, line_over, unit_is}
use Rattle.search.proofs.LookLaws.{satisfied_by}
use Rattle.search.proofs.MachineLaws.{get_before, get_taken, numbered_last, with_line}
use Rattle.search.proofs.NextLaws.{landing_over, same_clauses}
use Rattle.search.proofs.ScanLaws.{numbered_next}
use Rattle.search.proofs.WatchLaws.{watching_back, watching_learned, watching_on, watching_paired}

differ : (b : Bool) → b ≡ true → b ≡ false → ⊥
differ b e f = let no : true ≡ false = sym e ∙ f in absurd cc

open_false : (a b : Bool) → not (a || b) ≡ true → (a ≡ false) × (b ≡ false)
open_false true b h = absurd cc
open_false false true h = absurd cc
open_false false false h = (refl, refl)

-- ---- decisions

pub searching_decided : (formula : Formula) (budget : ℕ) (m n : Machine) (w : Watching) (x : ℤ) → IsSearching formula budget m w → length m.trail.items ≤ w.head → IsAt formula n
    → n.trail.items ≡ with_entry m.trail.items x None → n.learned ≡ m.learned → length n.moves.items ≡ length m.moves.items + 1 → length m.moves.items < budget → IsSearching formula budget n w
searching_decided formula budget m n w x is read at trail learned moves paid = record {
  at = at;
  watching = let inside = is.watching.head in rw (trail, learned) (watching_on formula m.learned m.trail.items w x None (λ none. omega (arith, read, inside)) is.watching);
  full = rw learned is.full;
  paid = omega (arith, moves, paid);
}

-- ---- jumps

module _ (formula : Formula) (budget : ℕ) (m : Machine) (w : Watching) (line : DerivationLine) (landing : Landing) (is : IsSearching formula budget m w)
    (lesson : IsLesson (all_clauses formula m.learned) m.trail.items line.first line (Some landing)) where
  pub clause_over : (y : ℤ) → has_literal line.clause y ≡ true → IsOver formula.variables y
  clause_over y has =
      is_over-tells formula.variables y (has_over formula.variables line.clause y (line_over formula.variables (all_clauses formula m.learned) line is.at.held.sound.clauses lesson.right) has)

  own_in : has_literal line.clause landing.literal ≡ true
  own_in = (unit_is (take landing.cut m.trail.items) line.clause landing.literal lesson.landing.unit).0

  free_there : (is_true (take landing.cut m.trail.items) landing.literal ≡ false) × (is_true (take landing.cut m.trail.items) (neg_ℤ landing.literal) ≡ false)
  free_there = open_false _ _ (unit_is (take landing.cut m.trail.items) line.clause landing.literal lesson.landing.unit).1

  pub literal_over : IsOver formula.variables landing.literal
  literal_over = landing_over formula m.learned m.trail.items line.first line (Some landing) landing is.at.held.sound lesson refl

  below : (d : ℕ) (y : ℤ) → d ≤ landing.cut → is_true (take landing.cut m.trail.items) y ≡ false → is_true (take d m.trail.items) y ≡ false
  below d y low free = by_value (is_true (take d m.trail.items) y) refl
    where
      by_value : (b : Bool) → is_true (take d m.trail.items) y ≡ b → is_true (take d m.trail.items) y ≡ false
      by_value false e = e
      by_value true e = absurd (differ (is_true (take landing.cut m.trail.items) y) (true_later m.trail.items d landing.cut y low e) free)

  pub jump_allowed : IsConflicting formula m line.first
      → Moves formula (state_of m.trail.items m.learned) (move.Jump line landing.cut) (jumped formula (state_of m.trail.items m.learned) line landing.cut landing.literal)
  jump_allowed conflict = record {
    literal = landing.literal;
    conflict = rw (same_clauses formula m.learned m.trail.items) conflict;
    right = rw (same_clauses formula m.learned m.trail.items) lesson.right;
    reasons = lesson.reasons;
    decided = lesson.landing.decided;
    unit = lesson.landing.unit;
    gives = refl;
  }

  module _ (n : Machine) (u : Watching) (number : ℕ) (trail : n.trail.items ≡ with_entry (take landing.cut m.trail.items) landing.literal (Some number))
      (learned : n.learned ≡ record { lines = m.learned.lines ++ line ∷ [] }) (lists : u.watchers.items ≡ w.watchers.items) (pairs : u.pairs.items ≡ w.pairs.items) (head : u.head ≡ landing.cut) where
    watching_cut : IsWatching formula n.learned n.trail.items u
    watching_cut =
        rw trail
        (watching_on formula n.learned (take landing.cut m.trail.items) u landing.literal (Some number) (λ none. absurd cc)
        (watching_learned formula m.learned n.learned (take landing.cut m.trail.items) u line learned
        (watching_back m.trail.items landing.cut lesson.landing.decided formula m.learned w u lists pairs head is.watching)))

    all : all_clauses formula n.learned ≡ all_clauses formula m.learned ++ line.clause ∷ []
    all = ap (all_clauses formula) learned ∙ with_line formula m.learned line

    full_before : length u.pairs.items ≡ length (all_clauses formula m.learned)
    full_before = ap length pairs ∙ is.full

    named : slice_get (all_clauses formula n.learned) (length u.pairs.items) ≡ Some line.clause
    named = ap (λ clauses. slice_get clauses (length u.pairs.items)) all ∙ ap (slice_get (all_clauses formula m.learned ++ line.clause ∷ [])) full_before
        ∙ sym (numbered_next (all_clauses formula m.learned ++ line.clause ∷ []) (length (all_clauses formula m.learned))) ∙ numbered_last (all_clauses formula m.learned) line.clause

    inside : landing.cut ≤ length m.trail.items
    inside = let at = some_entry m.trail.items landing.cut (λ e. e.reason ≡ None) lesson.landing.decided in let within = slice_get_within m.trail.items landing.cut at.0 at.1 in omega (arith, within)

    own_true : is_satisfied n.trail.items line.clause ≡ true
    own_true = rw trail (satisfied_by (is_true (with_entry (take landing.cut m.trail.items) landing.literal (Some number))) line.clause landing.literal own_in (at_end (take landing.cut m.trail.items)))
      where
        at_end : (t : List Entry) → is_true (with_entry t landing.literal (Some number)) landing.literal ≡ true
        at_end [] = rw (equal_literal landing.literal landing.literal refl) refl
        at_end (f ∷ t) = or_behind (int_eq f.literal landing.literal) _ (at_end t)

    -- a decision on the new trail stands before the cut, and the trail before it is as it was
    earlier : (d : ℕ) → IsDecidedAt n.trail.items d → IsDecidedAt m.trail.items d × (d < landing.cut) × (take d n.trail.items ≡ take d m.trail.items)
    earlier d decided =
        let e : Entry = record { literal = landing.literal; reason = Some number } in
        let found = some_entry (take landing.cut m.trail.items ++ e ∷ []) d (λ f. f.reason ≡ None) (rw trail at decided) in
        by_side e refl found.0 found.2 (get_before (take landing.cut m.trail.items) e d found.0 found.1)
      where
        by_side : (e : Entry) → e ≡ record { literal = landing.literal; reason = Some number } → (f : Entry) → f.reason ≡ None
            → ((slice_get (take landing.cut m.trail.items) d ≡ Some f) × (take d (take landing.cut m.trail.items ++ e ∷ []) ≡ take d (take landing.cut m.trail.items)))
            ⊎ ((f ≡ e) × (take d (take landing.cut m.trail.items ++ e ∷ []) ≡ take landing.cut m.trail.items))
            → IsDecidedAt m.trail.items d × (d < landing.cut) × (take d n.trail.items ≡ take d m.trail.items)
        by_side e is_e f none (inl h) =
            let taken = get_taken m.trail.items landing.cut d f h.0 in
            let within = slice_get_within (take landing.cut m.trail.items) d f h.0 in
            let count = length-take-le landing.cut m.trail.items inside in
            (rw taken.0 none, omega (arith, within, count), ap (take d) trail ∙ ap (λ g. take d (take landing.cut m.trail.items ++ g ∷ [])) (sym is_e) ∙ h.1 ∙ taken.1)
        by_side e is_e f none (inr h) =
            let one : Some number ≡ None = sym (ap (λ (g : Entry). g.reason) (h.0 ∙ is_e)) ∙ none in
            absurd cc

    module _ (v : Watching) (at : IsAt formula n) (moves : length n.moves.items ≡ length m.moves.items + 1) (paid : length m.moves.items < budget) where
      counted : length (all_clauses formula n.learned) ≡ length (all_clauses formula m.learned) + 1
      counted = ap length all ∙ length-append (all_clauses formula m.learned) (line.clause ∷ [])

      -- the clause has no other literal
      pub searching_alone : landing.other ≡ None → v.watchers.items ≡ u.watchers.items → v.pairs.items ≡ u.pairs.items ++ record { left = landing.literal; right = landing.literal } ∷ [] → v.head ≡ u.head
          → IsSearching formula budget n v
      searching_alone none vlists vpairs vhead = record {
        at = at;
        watching =
            watching_paired formula n.learned n.trail.items u v record { left = landing.literal; right = landing.literal } line.clause named vpairs vhead (ap length vlists)
            (λ y k h. ap (λ l. is_among k (list_of l y)) vlists ∙ h) (λ y k h. inl (ap (λ l. is_among k (list_of l y)) (sym vlists) ∙ h)) (own_in, own_in)
            (inl record { now = own_true; before = λ d decided. absurd (never d decided) }) (rw vlists watching_cut.blocked) watching_cut;
        full = let count = length-append u.pairs.items (record { left = landing.literal; right = landing.literal } ∷ []) in rw vpairs (omega (arith, count, full_before, counted));
        paid = omega (arith, moves, paid);
      }
        where
          never : (d : ℕ) → IsDecidedAt n.trail.items d → ⊥
          never d decided = let old = earlier d decided in (rw none at lesson.landing.latest).1 d old.0 old.1

      -- it has another, which is watched beside the one
      pub searching_beside : (y : ℤ) → landing.other ≡ Some y → IsPaired u v (length u.pairs.items) record { left = landing.literal; right = y } → IsSearching formula budget n v
      searching_beside y some gives = record {
        at = at;
        watching =
            watching_paired formula n.learned n.trail.items u v record { left = landing.literal; right = y } line.clause named gives.pairs gives.head gives.lists gives.keeps gives.only (own_in, latest.0)
            (inr record {
              left = record {
                now = λ h. own_true;
                before = λ d decided h. let old = earlier d decided in absurd (differ (is_true (take d n.trail.items) (neg_ℤ landing.literal)) h (ap (λ t. is_true t (neg_ℤ landing.literal)) old.2 ∙ below d (neg_ℤ landing.literal) (let low = old.1 in omega (arith, low)) free_there.1));
              };
              right = record {
                now = λ h. own_true;
                before = λ d decided h. let old = earlier d decided in absurd (differ (is_true (take d n.trail.items) (neg_ℤ y)) h (ap (λ t. is_true t (neg_ℤ y)) old.2 ∙ latest.2 d old.0 old.1));
              };
              differ = int_eq-sym landing.literal y ∙ latest.1;
              left_listed = gives.left_listed;
              right_listed = gives.right_listed;
            })
            (gives.passing (is_blocked (all_clauses formula n.learned)) (rw named latest.0) (rw named own_in) watching_cut.blocked) watching_cut;
        full = let count = length-append u.pairs.items (record { left = landing.literal; right = y } ∷ []) in rw gives.pairs (omega (arith, count, full_before, counted));
        paid = omega (arith, moves, paid);
      }
        where
          latest : (has_literal line.clause y ≡ true) × (int_eq y landing.literal ≡ false) × ((d : ℕ) → IsDecidedAt m.trail.items d → d < landing.cut → is_true (take d m.trail.items) (neg_ℤ y) ≡ false)
          latest = rw some at lesson.landing.latest

-- ---- ends

pub end_more : (formula : Formula) (moves budget : ℕ) → moves ≤ budget → (f : Found) → IsEnd formula moves f → IsEnd formula budget f
end_more formula moves budget low (found.Model model) h = h
end_more formula moves budget low (found.NoModel derivation) h = let lines = h.1 in (h.0, omega (arith, low, lines))
end_more formula moves budget low (found.Spent history) h = absurd h
