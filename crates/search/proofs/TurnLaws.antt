-- What each turn of the machine leads to.
use Rattle.std.proofs.Common.{◌≡◌, ◌⊎◌, ℕ, zero, suc, ◌+◌, ◌-◌, ◌*◌, ◌<◌, ◌≤◌, ◌^◌, Bool, true, false, ◌||◌, List, [], ◌∷◌, ◌++◌, length, take, map, get_or, replicate, refl, sym, ◌∙◌, ap, arith, Option, Some}
use mathlib.Core.Logic.{inl, inr}
use Rattle.std.specs.Prelude.{ℤ, pos, negsuc, not, ◌&&◌, slice_get, slice_set, IfSome, IsSomeAnd}
use Rattle.std.specs.Int.RustNames.{unsigned_abs}
use Rattle.std.specs.List.{list_all}
use Rattle.std.specs.Ordering.{int_eq}
use Rattle.std.proofs.lemmas.List.{append_cancel_left, append-nil, length-append, length-replicate}
use Rattle.std.proofs.lemmas.List.Folds.{list_all-append, list_any-append}
use Rattle.cnf.specs.declared.derivation.Derivation.{Derivation}
use Rattle.cnf.specs.declared.derivation.DerivationLine.{DerivationLine}
use Rattle.cnf.specs.declared.formula.Formula.{Formula}
use Rattle.cnf.specs.Checks.{Checks, IsRight, numbered}
use Rattle.cnf.specs.Clauses.{literal_key}
use Rattle.cnf.specs.Formulas.{Satisfies}
use Rattle.cnf.proofs.ClauseLaws.{same_key}
use Rattle.cnf.specs.literal_marks.Marks.{IsClear, marked}
use Rattle.cnf.specs.declared.literal_marks.places.Places.TheVariants.{ByKey}
use Rattle.search.specs.declared.machine.Machine.{Machine}
use Rattle.search.specs.declared.moves.Move.{Move}
use Rattle.search.specs.declared.moves.Move.TheVariants as move
use Rattle.search.specs.declared.moves.Step.{Step}
use Rattle.search.specs.declared.moves.Step.TheVariants as step
use Rattle.search.specs.declared.next.Next.{Next}
use Rattle.search.specs.declared.next.Next.TheVariants as next
use Rattle.search.specs.declared.order.Order.{Order}
use Rattle.search.specs.declared.trail.Entry.{Entry}
use Rattle.search.specs.At.{IsAt, IsHeld, IsSameBut}
use Rattle.search.specs.Laws.{IsFormula, is_over}
use Rattle.search.specs.Machine.{EndsAsModel, IsFinished, IsOver, Jumps, Moves, Runs, State, clauses_of, first_state, is_conflict, is_open, is_true, unit_of, with_entry}
use Rattle.search.specs.Nexts.{IsNext, jumped, state_of}
use Rattle.search.specs.Orders.{AreListed}
use Rattle.search.specs.Sound.{Implies, all_clauses}
use Rattle.search.specs.Steps.{move_of, moves_of}
use Rattle.search.specs.Trails.{AreLocated}
use Rattle.search.specs.Watching.{is_among}
use Rattle.search.proofs.BackLaws.{true_at, true_in_all}
use Rattle.search.proofs.HistoryLaws.{no_places}
use Rattle.search.proofs.KeptLaws.{has_over, is_over-tells, numbered_over, unit_is}
use Rattle.search.proofs.ListsLaws.{get-set_other, get-set_same}
use Rattle.search.proofs.MachineLaws.{all_true, checks_by, get_taken, numbered_last, rights_more, run_more, sound_cut, sound_learn, sound_more, unit_implies, with_line}
use Rattle.search.proofs.NextLaws.{same_clauses}
use Rattle.search.proofs.OrderLaws.{listed_more}
use Rattle.search.proofs.ScanLaws.{clauses_count}
use Rattle.search.proofs.StepLaws.{jump_count-jump, jump_count-step, length-moves_of, moves-jump, moves-step, some_move}

-- ---- the first state

variable_over : (n : ℕ) (x : ℤ) → IsOver n x → (1 ≤ unsigned_abs x) × (unsigned_abs x ≤ n)
variable_over n (pos k) h = (omega (arith, h.0), omega (arith, h.1))
variable_over n (negsuc k) h = (omega (arith, h.0), omega (arith, h.1))

none_marked : (size k : ℕ) → get_or (replicate size false) k false ≡ false
none_marked zero k = refl
none_marked (suc size) zero = refl
none_marked (suc size) (suc k) = none_marked size k

pub at_first : (formula : Formula) (m : Machine) → IsFormula formula → length formula.clauses < 2 ^ 32 → m.trail.items ≡ [] → m.learned ≡ record { lines = [] } → m.moves.items ≡ []
    → m.values.items ≡ replicate (2 * formula.variables + 2) false → m.marks.items ≡ replicate (2 * formula.variables + 2) false
    → length m.places.items ≡ 2 * formula.variables + 2
    → ((v : ℕ) → 1 ≤ v → v ≤ formula.variables → is_among v m.order.heap.items ≡ true) → IsAt formula m
at_first formula m is few trail learned moves values marks places all = record {
  held = record {
    sound = rw (trail, learned) record {
      kept = record { over = refl; distinct = no_places };
      clauses = ap (list_all (list_all (is_over formula.variables))) (append-nil formula.clauses) ∙ is;
      reasons = λ j e number at r. absurd cc;
    };
    rights = λ k h. absurd (none k h);
    values = λ x. rw (trail, values) (none_marked (2 * formula.variables + 2) (literal_key x));
    places = rw values (length-replicate (2 * formula.variables + 2) false);
    marks = rw marks (length-replicate (2 * formula.variables + 2) false);
    clear = λ x. rw marks (none_marked (2 * formula.variables + 2) (literal_key x));
    located = λ i e at. absurd (nowhere m.trail.items trail i e at);
    room = places;
    listed = λ x over free. let range = variable_over formula.variables x over in all (unsigned_abs x) range.0 range.1;
    few = let no_lines : length m.learned.lines ≡ 0 = rw learned refl in omega arith;
  };
  run = rw (trail, learned, moves) refl;
  jumps = rw (learned, moves) refl;
  lines = let no_lines : length m.learned.lines ≡ 0 = rw learned refl in omega arith;
}
  where
    nowhere : (entries : List Entry) → entries ≡ [] → (i : ℕ) (e : Entry) → slice_get entries i ≡ Some e → ⊥
    nowhere entries same i e at = let none : slice_get [] i ≡ Some e = ap (λ t. slice_get t i) (sym same) ∙ at in absurd cc

    none : (k : ℕ) → k < length m.learned.lines → ⊥
    none k h = let no_lines : length m.learned.lines ≡ 0 = rw learned refl in omega arith

-- ---- ends

pub model_ends : (formula : Formula) (m : Machine) (values : List Bool) → IsHeld formula m → EndsAsModel formula (state_of m.trail.items m.learned)
    → ((v : ℕ) → 0 < v → v ≤ formula.variables → get_or values (v - 1) false ≡ marked ByKey m.values.items (pos v)) → Satisfies (λ v. get_or values (v - 1) false) formula
model_ends formula m values held is each =
    all_true formula m.trail.items (λ v. get_or values (v - 1) false) held.sound.kept (λ v low high. each v low high ∙ held.values (pos v)) is.all formula.clauses
    (front _ _ (sym (list_all-append (list_all (is_over formula.variables)) formula.clauses (map (λ (line : DerivationLine). line.clause) m.learned.lines)) ∙ ap (list_all (list_all (is_over formula.variables))) (same_clauses formula m.learned m.trail.items) ∙ held.sound.clauses))
    (none _ _ (sym (list_any-append (is_conflict (is_true m.trail.items)) formula.clauses (map (λ (line : DerivationLine). line.clause) m.learned.lines)) ∙ is.no_conflict))
  where
    front : (a b : Bool) → (a && b) ≡ true → a ≡ true
    front true b h = refl
    front false b h = h

    none : (a b : Bool) → (a || b) ≡ false → a ≡ false
    none true b h = h
    none false b h = refl

pub refuted_ends : (formula : Formula) (m : Machine) (line : DerivationLine) (derivation : Derivation) → IsAt formula m → IsRight (clauses_of formula (state_of m.trail.items m.learned)) line → line.clause ≡ []
    → derivation.lines ≡ m.learned.lines ++ line ∷ [] → Checks formula derivation × (length derivation.lines ≤ length m.moves.items + 1)
refuted_ends formula m line derivation at right empty lines =
    let same : derivation ≡ record { lines = m.learned.lines ++ line ∷ [] } = ap (λ ls. record { lines = ls }) lines in
    let count = length-append m.learned.lines (line ∷ []) in (
      rw same (checks_by formula m.learned line at.held.rights (rw (same_clauses formula m.learned m.trail.items) at right) empty),
      rw lines (omega (arith, count, at.lines)),
    )

-- what comes next shows that the state isn't finished
unfinished_next : (formula : Formula) (s : State) (n : Next) → IsNext formula s n → (n ≡ next.Model → ⊥) → ((line : DerivationLine) → n ≡ next.Refuted line → ⊥) → IsFinished formula s → ⊥
unfinished_next formula s next.Model is model refuted = absurd (model refl)
unfinished_next formula s (next.Refuted line) is model refuted = absurd (refuted line refl)
unfinished_next formula s (next.Propagate clause x) is model refuted = is.1
unfinished_next formula s (next.Decide x) is model refuted = is.1
unfinished_next formula s (next.Jump line cut x) is model refuted = is.1

pub spent_ends : (formula : Formula) (m : Machine) (n : Next) (moves : List Move) → IsAt formula m → IsNext formula (state_of m.trail.items m.learned) n → (n ≡ next.Model → ⊥)
    → ((line : DerivationLine) → n ≡ next.Refuted line → ⊥) → moves ≡ moves_of m.moves.items m.learned.lines
    → (length moves ≡ length m.moves.items) × ((end : State) × Runs formula first_state moves end × (IsFinished formula end → ⊥))
spent_ends formula m n moves at is model refuted gives = (
  ap length gives ∙ length-moves_of m.moves.items m.learned.lines at.jumps,
  (state_of m.trail.items m.learned, rw gives at.run, unfinished_next formula (state_of m.trail.items m.learned) n is model refuted),
)

-- ---- moves

more_true : (trail : List Entry) (x : ℤ) (reason : Option ℕ) (y : ℤ) → is_true (with_entry trail x reason) y ≡ (is_true trail y || int_eq x y)
more_true trail x reason y = list_any-append (λ e. int_eq e.literal y) trail (record { literal = x; reason = reason } ∷ []) ∙ last (is_true trail y) (int_eq x y)
  where
    last : (a b : Bool) → (a || (b || false)) ≡ (a || b)
    last true b = refl
    last false true = refl
    last false false = refl

-- where the literals of a trail with one more entry stand
entry_before : (trail : List Entry) (e : Entry) (i : ℕ) (f : Entry) → slice_get (trail ++ e ∷ []) i ≡ Some f → (slice_get trail i ≡ Some f) ⊎ ((f ≡ e) × (i ≡ length trail))
entry_before [] e zero f at = inr (cc, refl)
entry_before [] e (suc i) f at = absurd cc
entry_before (g ∷ trail) e zero f at = inl at
entry_before (g ∷ trail) e (suc i) f at = by_side (entry_before trail e i f at)
  where
    by_side : (slice_get trail i ≡ Some f) ⊎ ((f ≡ e) × (i ≡ length trail)) → (slice_get trail i ≡ Some f) ⊎ ((f ≡ e) × (suc i ≡ suc (length trail)))
    by_side (inl h) = inl h
    by_side (inr h) = inr (h.0, ap suc h.1)

located_more : (trail : List Entry) (places : List ℕ) (x : ℤ) (reason : Option ℕ) → is_true trail x ≡ false → literal_key x < length places → AreLocated trail places
    → AreLocated (with_entry trail x reason) (slice_set places (literal_key x) (length trail))
located_more trail places x reason free room located i f at = by_side (entry_before trail record { literal = x; reason = reason } i f at)
  where
    by_side : (slice_get trail i ≡ Some f) ⊎ ((f ≡ record { literal = x; reason = reason }) × (i ≡ length trail)) → slice_get (slice_set places (literal_key x) (length trail)) (literal_key f.literal) ≡ Some i
    by_side (inr h) =
        let own : f.literal ≡ x = ap (λ (g : Entry). g.literal) h.0 in
        ap (λ y. slice_get (slice_set places (literal_key x) (length trail)) (literal_key y)) own ∙ get-set_same places (literal_key x) (length trail) room ∙ ap Some (sym h.1)
    by_side (inl h) = get-set_other places (literal_key x) (literal_key f.literal) (length trail) apart ∙ located i f h
      where
        apart : literal_key f.literal ≡ literal_key x → ⊥
        apart same =
            let yes : is_true trail f.literal ≡ true = true_in_all trail (suc i) f.literal (true_at trail i (suc i) f (omega arith) h) in
            let no : true ≡ false = sym yes ∙ ap (is_true trail) (same_key f.literal x same) ∙ free in
            absurd cc

-- one more literal
pub held_more : (formula : Formula) (m n : Machine) (x : ℤ) (reason : Option ℕ) → IsHeld formula m → IsOver formula.variables x → is_open (is_true m.trail.items) x ≡ true
    → IfSome reason (λ number. IsSomeAnd (numbered (all_clauses formula m.learned) number) (Implies m.trail.items x)) → n.trail.items ≡ with_entry m.trail.items x reason
    → ((y : ℤ) → marked ByKey n.values.items y ≡ (marked ByKey m.values.items y || int_eq x y)) → n.places.items ≡ slice_set m.places.items (literal_key x) (length m.trail.items) → n.order ≡ m.order → IsSameBut m n
    → IsHeld formula n
held_more formula m n x reason held over free implied trail values places order same = record {
  sound = rw (trail, same.learned) (sound_more formula m.learned m.trail.items x reason held.sound over free implied);
  rights = rw same.learned held.rights;
  values = λ y. values y ∙ rw (held.values y, trail) (sym (more_true m.trail.items x reason y));
  places = same.places ∙ held.places;
  marks = ap length same.marks ∙ held.marks;
  clear = rw same.marks held.clear;
  located = rw (trail, places) (located_more m.trail.items m.places.items x reason (closed _ _ free) (let room = held.room in omega (arith, room, over.1)) held.located);
  room = same.room ∙ held.room;
  listed = rw (trail, order) (listed_more formula.variables m.trail.items (with_entry m.trail.items x reason) m.order.heap.items (λ y h. not_before (is_true m.trail.items y) (int_eq x y) (sym (more_true m.trail.items x reason y) ∙ h)) held.listed);
  few = rw same.learned held.few;
}
  where
    not_before : (a b : Bool) → (a || b) ≡ false → a ≡ false
    not_before true b h = h
    not_before false b h = refl

    closed : (a b : Bool) → not (a || b) ≡ true → a ≡ false
    closed true b h = absurd cc
    closed false b h = refl

-- another order of decisions
pub at_ordered : (formula : Formula) (m n : Machine) → IsAt formula m → n.trail ≡ m.trail → n.values ≡ m.values → n.places ≡ m.places → n.learned ≡ m.learned → n.moves ≡ m.moves
    → length n.marks.items ≡ length m.marks.items → IsClear ByKey n.marks.items → AreListed formula.variables m.trail.items n.order.heap.items → IsAt formula n
at_ordered formula m n at trail values places learned moves size clear listed = record {
  held = record {
    sound = rw (trail, learned) at.held.sound;
    rights = rw learned at.held.rights;
    values = λ y. rw (values, trail) (at.held.values y);
    places = rw values at.held.places;
    marks = size ∙ at.held.marks;
    clear = clear;
    located = rw (trail, places) at.held.located;
    room = rw places at.held.room;
    listed = rw trail listed;
    few = rw learned at.held.few;
  };
  run = rw (moves, trail, learned) at.run;
  jumps = rw (moves, learned) at.jumps;
  lines = rw (moves, learned) at.lines;
}

-- the trail cut
pub held_cut : (formula : Formula) (m n : Machine) (cut : ℕ) → IsHeld formula m → n.trail.items ≡ take cut m.trail.items → ((y : ℤ) → marked ByKey n.values.items y ≡ is_true (take cut m.trail.items) y)
    → n.places ≡ m.places → n.order ≡ m.order → AreListed formula.variables (take cut m.trail.items) m.order.heap.items → IsSameBut m n → IsHeld formula n
held_cut formula m n cut held trail values places order listed same = record {
  sound = rw (trail, same.learned) (sound_cut formula m.learned m.trail.items cut held.sound);
  rights = rw same.learned held.rights;
  values = λ y. values y ∙ rw trail refl;
  places = same.places ∙ held.places;
  marks = ap length same.marks ∙ held.marks;
  clear = rw same.marks held.clear;
  located = rw (trail, places) (λ i f at. held.located i f (get_taken m.trail.items cut i f at).0);
  room = same.room ∙ held.room;
  listed = rw (trail, order) listed;
  few = rw same.learned held.few;
}

-- a learned line
pub held_learn : (formula : Formula) (m n : Machine) (line : DerivationLine) → IsHeld formula m → IsRight (all_clauses formula m.learned) line → n.trail.items ≡ m.trail.items
    → n.values.items ≡ m.values.items → n.marks.items ≡ m.marks.items → n.places.items ≡ m.places.items → AreListed formula.variables n.trail.items n.order.heap.items → n.learned ≡ record { lines = m.learned.lines ++ line ∷ [] } → length formula.clauses + length m.learned.lines + 1 < 2 ^ 32 → IsHeld formula n
held_learn formula m n line held right trail values marks places listed learned few = record {
  sound = rw (trail, learned) (sound_learn formula m.learned m.trail.items line held.sound right);
  rights = rw learned (rights_more formula m.learned line held.rights right);
  values = λ y. rw (values, trail) (held.values y);
  places = rw values held.places;
  marks = rw marks held.marks;
  clear = rw marks held.clear;
  located = rw (trail, places) held.located;
  room = rw places held.room;
  listed = listed;
  few = let count = length-append m.learned.lines (line ∷ []) in let own : length n.learned.lines ≡ length m.learned.lines + 1 = rw learned count in omega (arith, own);
}

-- a propagation or a decision
pub at_more : (formula : Formula) (m n o : Machine) (x : ℤ) (reason : Option ℕ) (made : Step) → IsAt formula m → IsHeld formula n → n.trail.items ≡ with_entry m.trail.items x reason → IsSameBut m n
    → IsSomeAnd (move_of made) (λ move. Moves formula (state_of m.trail.items m.learned) move record { trail = with_entry m.trail.items x reason; learned = m.learned.lines })
    → o.trail ≡ n.trail → o.values ≡ n.values → o.learned ≡ n.learned → o.marks ≡ n.marks → o.places ≡ n.places → o.order ≡ n.order → o.moves.items ≡ n.moves.items ++ made ∷ [] → IsAt formula o
at_more formula m n o x reason made at held trail same moved otrail ovalues olearned omarks oplaces oorder omoves = record {
  held = record {
    sound = rw (otrail, olearned) held.sound;
    rights = rw olearned held.rights;
    values = λ y. rw (ovalues, otrail) (held.values y);
    places = rw ovalues held.places;
    marks = rw omarks held.marks;
    clear = rw omarks held.clear;
    located = rw (otrail, oplaces) held.located;
    room = rw oplaces held.room;
    listed = rw (otrail, oorder) held.listed;
    few = rw olearned held.few;
  };
  run =
      rw (omoves, same.moves, otrail, trail, olearned, same.learned, moves-step m.moves.items m.learned.lines made last.0 at.jumps last.1)
      (run_more formula first_state (moves_of m.moves.items m.learned.lines) (state_of m.trail.items m.learned) last.0 _ at.run last.2);
  jumps = rw (omoves, same.moves, olearned, same.learned) (jump_count-step m.moves.items made last.0 last.1 ∙ at.jumps);
  lines =
      let count = length-append n.moves.items (made ∷ []) in
      let own : length o.moves.items ≡ length n.moves.items + 1 = rw omoves count in
      let before : length n.moves.items ≡ length m.moves.items = rw same.moves refl in
      let lines : length o.learned.lines ≡ length m.learned.lines = rw (olearned, same.learned) refl in
      omega (arith, at.lines, own, before, lines);
}
  where
    last : (last : Move) × (move_of made ≡ Some last) × Moves formula (state_of m.trail.items m.learned) last record { trail = with_entry m.trail.items x reason; learned = m.learned.lines }
    last = some_move made _ moved

-- ---- entries

pub entry_has : (test : Entry → Bool) (trail : List Entry) (i : ℕ) (e : Entry) → list_all test trail ≡ true → slice_get trail i ≡ Some e → test e ≡ true
entry_has test [] i e a h = absurd cc
entry_has test (f ∷ trail) zero e a h = let same : f ≡ e = cc in ap test (sym same) ∙ left (test f) a
  where
    left : (b : Bool) → (b && list_all test trail) ≡ true → b ≡ true
    left true g = refl
    left false g = g
entry_has test (f ∷ trail) (suc i) e a h = entry_has test trail i e (right (test f) a) h
  where
    right : (b : Bool) → (b && list_all test trail) ≡ true → list_all test trail ≡ true
    right true g = g
    right false g = absurd cc

-- ---- jumps

same_last : (trail : List Entry) (x y : ℤ) (r q : Option ℕ) → with_entry trail x r ≡ with_entry trail y q → x ≡ y
same_last trail x y r q e =
    let tails = append_cancel_left trail _ _ e in
    let same : record { literal = x; reason = r } ≡ record { literal = y; reason = q } = cc in
    ap (λ (f : Entry). f.literal) same

-- the literal that a jump puts on the trail is open before, and implied by the line
pub jump_opens : (formula : Formula) (m : Machine) (line : DerivationLine) (cut : ℕ) (x : ℤ)
    → Jumps formula (state_of m.trail.items m.learned) line cut (jumped formula (state_of m.trail.items m.learned) line cut x)
    → (is_open (is_true (take cut m.trail.items)) x ≡ true) × Implies (take cut m.trail.items) x line.clause
jump_opens formula m line cut x j =
    let same : x ≡ j.literal = same_last (take cut m.trail.items) x j.literal _ _ (ap (λ (s : State). s.trail) j.gives) in
    let unit : unit_of (is_true (take cut m.trail.items)) line.clause ≡ Some x = j.unit ∙ ap Some (sym same) in
    ((unit_is (take cut m.trail.items) line.clause x unit).1, unit_implies (take cut m.trail.items) line.clause x unit)

pub propagation_implies : (formula : Formula) (m : Machine) (number : ℕ) (x : ℤ) → IsHeld formula m
    → Moves formula (state_of m.trail.items m.learned) (move.Propagate number) record { trail = with_entry m.trail.items x (Some number); learned = m.learned.lines }
    → (is_open (is_true m.trail.items) x ≡ true) × IsSomeAnd (numbered (all_clauses formula m.learned) number) (Implies m.trail.items x)
propagation_implies formula m number x held p =
    let same : x ≡ p.literal = same_last m.trail.items x p.literal _ _ (ap (λ (s : State). s.trail) p.gives) in
    let unit : unit_of (is_true m.trail.items) p.clause ≡ Some x = p.unit ∙ ap Some (sym same) in
    let named : numbered (all_clauses formula m.learned) number ≡ Some p.clause = ap (λ clauses. numbered clauses number) (sym (same_clauses formula m.learned m.trail.items)) ∙ p.named in
    ((unit_is m.trail.items p.clause x unit).1, rw named (unit_implies m.trail.items p.clause x unit))

pub propagation_over : (formula : Formula) (m : Machine) (number : ℕ) (x : ℤ) → IsHeld formula m
    → Moves formula (state_of m.trail.items m.learned) (move.Propagate number) record { trail = with_entry m.trail.items x (Some number); learned = m.learned.lines }
    → IsOver formula.variables x
propagation_over formula m number x held p =
    let same : x ≡ p.literal = same_last m.trail.items x p.literal _ _ (ap (λ (s : State). s.trail) p.gives) in
    let unit : unit_of (is_true m.trail.items) p.clause ≡ Some x = p.unit ∙ ap Some (sym same) in
    let clauses = rw (sym (same_clauses formula m.learned m.trail.items)) at held.sound.clauses in
    is_over-tells formula.variables x (has_over formula.variables p.clause x (numbered_over formula.variables _ number p.clause clauses p.named) (unit_is m.trail.items p.clause x unit).0)

pub at_jump : (formula : Formula) (m n o : Machine) (line : DerivationLine) (cut : ℕ) (x : ℤ) → IsAt formula m → IsHeld formula n
    → n.trail.items ≡ with_entry (take cut m.trail.items) x (Some (length formula.clauses + length m.learned.lines + 1)) → n.learned ≡ record { lines = m.learned.lines ++ line ∷ [] }
    → n.moves.items ≡ m.moves.items
    → Moves formula (state_of m.trail.items m.learned) (move.Jump line cut) (jumped formula (state_of m.trail.items m.learned) line cut x)
    → o.trail ≡ n.trail → o.values ≡ n.values → o.learned ≡ n.learned → o.marks ≡ n.marks → o.places ≡ n.places → o.order ≡ n.order → o.moves.items ≡ n.moves.items ++ step.Jump cut ∷ [] → IsAt formula o
at_jump formula m n o line cut x at held trail learned moves moved otrail ovalues olearned omarks oplaces oorder omoves = record {
  held = record {
    sound = rw (otrail, olearned) held.sound;
    rights = rw olearned held.rights;
    values = λ y. rw (ovalues, otrail) (held.values y);
    places = rw ovalues held.places;
    marks = rw omarks held.marks;
    clear = rw omarks held.clear;
    located = rw (otrail, oplaces) held.located;
    room = rw oplaces held.room;
    listed = rw (otrail, oorder) held.listed;
    few = rw olearned held.few;
  };
  run =
      rw (omoves, moves, otrail, trail, olearned, learned, moves-jump m.moves.items m.learned.lines cut line at.jumps)
      (rw count at (run_more formula first_state (moves_of m.moves.items m.learned.lines) (state_of m.trail.items m.learned) (move.Jump line cut) _ at.run moved));
  jumps =
      let one = jump_count-jump m.moves.items cut in
      let two = length-append m.learned.lines (line ∷ []) in
      let before = at.jumps in
      rw (omoves, moves, olearned, learned) (omega (arith, one, two, before));
  lines =
      let grown = length-append n.moves.items (step.Jump cut ∷ []) in
      let own : length o.moves.items ≡ length n.moves.items + 1 = rw omoves grown in
      let before : length n.moves.items ≡ length m.moves.items = rw moves refl in
      let more = length-append m.learned.lines (line ∷ []) in
      let lines : length o.learned.lines ≡ length m.learned.lines + 1 = rw (olearned, learned) more in
      omega (arith, at.lines, own, before, lines);
}
  where
    count : length (clauses_of formula (state_of m.trail.items m.learned)) ≡ length formula.clauses + length m.learned.lines
    count = ap length (same_clauses formula m.learned m.trail.items) ∙ clauses_count formula m.learned

-- the machine after a jump, by its steps: the line learned, the trail cut, and one more literal
abbrev pub with_lines : Machine → List DerivationLine → Order → Machine
with_lines m lines order = record { trail = m.trail; values = m.values; learned = record { lines = lines }; moves = m.moves; places = m.places; order = order; marks = m.marks }

pub jump_steps : (formula : Formula) (m cut_m n o : Machine) (order : Order) (lines : List DerivationLine) (line : DerivationLine) (cut number : ℕ) (x : ℤ) → IsAt formula m → IsOver formula.variables x
    → Moves formula (state_of m.trail.items m.learned) (move.Jump line cut) (jumped formula (state_of m.trail.items m.learned) line cut x)
    → number ≡ length formula.clauses + length m.learned.lines + 1 → number < 2 ^ 32 → lines ≡ m.learned.lines ++ line ∷ []
    → cut_m.trail.items ≡ take cut m.trail.items → ((y : ℤ) → marked ByKey cut_m.values.items y ≡ is_true (take cut m.trail.items) y) → cut_m.places ≡ m.places → cut_m.order ≡ order
    → AreListed formula.variables m.trail.items order.heap.items → AreListed formula.variables (take cut m.trail.items) order.heap.items → IsSameBut (with_lines m lines order) cut_m
    → n.trail.items ≡ with_entry cut_m.trail.items x (Some number) → ((y : ℤ) → marked ByKey n.values.items y ≡ (marked ByKey cut_m.values.items y || int_eq x y))
    → n.places.items ≡ slice_set cut_m.places.items (literal_key x) (length cut_m.trail.items) → n.order ≡ cut_m.order → IsSameBut cut_m n
    → o.trail ≡ n.trail → o.values ≡ n.values → o.learned ≡ n.learned → o.marks ≡ n.marks → o.places ≡ n.places → o.order ≡ n.order → o.moves.items ≡ n.moves.items ++ step.Jump cut ∷ [] → IsAt formula o
jump_steps formula m cut_m n o order lines line cut number x at over moved count few pushed cut_trail cut_values cut_places cut_order keeps listed cut_same trail values places norder same otrail ovalues olearned omarks oplaces oorder omoves =
    at_jump formula m n o line cut x at held
    (trail ∙ rw (cut_trail, count) refl)
    (same.learned ∙ learned)
    (same.moves ∙ cut_same.moves)
    moved otrail ovalues olearned omarks oplaces oorder omoves
  where
    learned : cut_m.learned ≡ record { lines = m.learned.lines ++ line ∷ [] }
    learned = cut_same.learned ∙ ap (λ ls. record { lines = ls }) pushed

    right : IsRight (all_clauses formula m.learned) line
    right = rw (same_clauses formula m.learned m.trail.items) at moved.right

    first_held : IsHeld formula (with_lines m lines order)
    first_held = held_learn formula m (with_lines m lines order) line at.held right refl refl refl refl keeps (ap (λ ls. record { lines = ls }) pushed) (omega (arith, count, few))

    cut_held : IsHeld formula cut_m
    cut_held = held_cut formula (with_lines m lines order) cut_m cut first_held cut_trail cut_values cut_places cut_order listed cut_same

    opens : (is_open (is_true (take cut m.trail.items)) x ≡ true) × Implies (take cut m.trail.items) x line.clause
    opens = jump_opens formula m line cut x moved

    all : all_clauses formula cut_m.learned ≡ all_clauses formula m.learned ++ line.clause ∷ []
    all = ap (all_clauses formula) learned ∙ with_line formula m.learned line

    place : number ≡ length (all_clauses formula m.learned) + 1
    place = count ∙ ap (λ k. k + 1) (sym (clauses_count formula m.learned))

    named : numbered (all_clauses formula cut_m.learned) number ≡ Some line.clause
    named = ap (λ clauses. numbered clauses number) all ∙ rw place (numbered_last (all_clauses formula m.learned) line.clause)

    held : IsHeld formula n
    held =
        held_more formula cut_m n x (Some number) cut_held over (rw cut_trail opens.0)
        (rw (named, cut_trail) opens.1) trail values places norder same
