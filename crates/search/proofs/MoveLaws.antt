-- A state that isn't finished has a move.
use Rattle.std.proofs.Common.{◌≡◌, ◌⊎◌, ℕ, zero, suc, ◌+◌, ◌<◌, ◌≤◌, Bool, true, false, ◌||◌, List, [], ◌∷◌, ◌++◌, length, take, get_or, refl, sym, ◌∙◌, ap, add-one, arith, Option, None, Some}
use mathlib.Core.Logic.{inl, inr}
use Rattle.std.specs.Prelude.{ℤ, pos, negsuc, neg_ℤ, not, ◌&&◌, nat_eq, slice_get, IfSome, IsSomeAnd, if◌then◌else◌}
use Rattle.std.specs.List.{list_all, list_any}
use Rattle.std.specs.Option.{is_some}
use Rattle.std.specs.Ordering.{int_eq}
use Rattle.std.proofs.lemmas.Bool.Decides.{Decides-eqb}
use Rattle.std.proofs.lemmas.List.{append-nil, take_all}
use Rattle.std.proofs.lemmas.List.Folds.{list_any-append}
use Rattle.std.proofs.lemmas.Option.{slice_get-get_or}
use Rattle.cnf.specs.declared.derivation.Derivation.{Derivation}
use Rattle.cnf.specs.declared.derivation.DerivationLine.{DerivationLine}
use Rattle.cnf.specs.declared.formula.Formula.{Formula}
use Rattle.cnf.specs.Checks.{IsRight, numbered}
use Rattle.cnf.specs.Clauses.{has_literal}
use Rattle.cnf.specs.Resolution.{resolvent}
use Rattle.cnf.proofs.ClauseLaws.{equal_literal, same_literal, same_test}
use Rattle.search.specs.declared.moves.Move.{Move}
use Rattle.search.specs.declared.moves.Move.TheVariants.{Propagate, Decide, Jump}
use Rattle.search.specs.declared.trail.Entry.{Entry}
use Rattle.search.specs.Laws.{IsFormula, MovesOn, is_over}
use Rattle.search.specs.Chains.{IsBack}
use Rattle.search.specs.Machine.{IsFinished, IsOver, Moves, Runs, State, clauses_of, first_state, is_conflict, is_implied_by, is_open, is_true, remaining, unit_of, with_entry}
use Rattle.search.specs.Nexts.{jumped}
use Rattle.search.specs.Sound.{Implies, IsSound, all_clauses}
use Rattle.search.specs.Trails.{IsTrail}
use Rattle.search.proofs.BackLaws.{at_entry, back_by_reason, back_over, free_before, negated_twice, or_behind, or_cases, true_in_all, true_later}
use Rattle.search.proofs.ChainLaws.{back_begins, conflict_falses}
use Rattle.search.proofs.HistoryLaws.{no_places}
use Rattle.search.proofs.KeptLaws.{has_over, is_over-tells, line_over, numbered_over, unit_is}
use Rattle.search.proofs.LessonLaws.{negation_test, next_against, nothing_false}
use Rattle.search.proofs.MachineLaws.{get_before, get_taken, numbered_last, sound_cut, sound_learn, sound_more, unit_implies, with_line}
use Rattle.search.proofs.NextLaws.{any_at, same_clauses}
use Rattle.search.proofs.TurnLaws.{entry_has}

-- ---- what histories keep

abbrev lines_of : State → Derivation
lines_of s = record { lines = s.learned }

-- the trail is sound, and no clause is false before a decided literal
record Grounded (formula : Formula) (s : State) : Type 0 where
  sound : IsSound formula (lines_of s) s.trail
  quiet : (c : ℕ) (e : Entry) → slice_get s.trail c ≡ Some e → e.reason ≡ None → list_any (is_conflict (is_true (take c s.trail))) (clauses_of formula s) ≡ false

grounded_first : (formula : Formula) → IsFormula formula → Grounded formula first_state
grounded_first formula is = record {
  sound = record {
    kept = record { over = refl; distinct = no_places };
    clauses = ap (list_all (list_all (is_over formula.variables))) (append-nil formula.clauses) ∙ is;
    reasons = λ j e number at r. absurd cc;
  };
  quiet = λ c e at d. absurd cc;
}

-- one more literal
by_entry : (formula : Formula) (s : State) (x : ℤ) (reason : Option ℕ) → Grounded formula s → IsOver formula.variables x → is_open (is_true s.trail) x ≡ true
    → IfSome reason (λ number. IsSomeAnd (numbered (all_clauses formula (lines_of s)) number) (Implies s.trail x))
    → (reason ≡ None → list_any (is_conflict (is_true s.trail)) (clauses_of formula s) ≡ false) → Grounded formula record { trail = with_entry s.trail x reason; learned = s.learned }
by_entry formula s x reason g over free implied none = record {
  sound = sound_more formula (lines_of s) s.trail x reason g.sound over free implied;
  quiet = λ c e at d. by_side c e d (get_before s.trail record { literal = x; reason = reason } c e at);
}
  where
    by_side : (c : ℕ) (e : Entry) → e.reason ≡ None
        → ((slice_get s.trail c ≡ Some e) × (take c (with_entry s.trail x reason) ≡ take c s.trail)) ⊎ ((e ≡ record { literal = x; reason = reason }) × (take c (with_entry s.trail x reason) ≡ s.trail))
        → list_any (is_conflict (is_true (take c (with_entry s.trail x reason)))) (clauses_of formula s) ≡ false
    by_side c e d (inl h) = rw h.1 (g.quiet c e h.0 d)
    by_side c e d (inr h) = rw h.1 (none (sym (ap (λ (f : Entry). f.reason) h.0) ∙ d))

all_over : (formula : Formula) (s : State) → Grounded formula s → list_all (list_all (is_over formula.variables)) (clauses_of formula s) ≡ true
all_over formula s g = ap (list_all (list_all (is_over formula.variables))) (same_clauses formula (lines_of s) s.trail) ∙ g.sound.clauses

grown : (formula : Formula) (s : State) (line : DerivationLine) (trail : List Entry) → clauses_of formula record { trail = trail; learned = s.learned ++ line ∷ [] } ≡ clauses_of formula s ++ line.clause ∷ []
grown formula s line trail =
    same_clauses formula record { lines = s.learned ++ line ∷ [] } trail ∙ with_line formula (lines_of s) line ∙ ap (λ zs. zs ++ line.clause ∷ []) (sym (same_clauses formula (lines_of s) s.trail))

open_negative : (a b : Bool) → not (a || b) ≡ true → b ≡ false
open_negative true b h = absurd cc
open_negative false true h = absurd cc
open_negative false false h = refl

not_false : (set : ℤ → Bool) (xs : List ℤ) (x : ℤ) → has_literal xs x ≡ true → set (neg_ℤ x) ≡ false → is_conflict set xs ≡ false
not_false set [] x h f = absurd cc
not_false set (y ∷ ys) x h f = by_test (int_eq y x) refl h (not_false set ys x)
  where
    none_behind : (a b : Bool) → b ≡ false → (a && b) ≡ false
    none_behind true b g = g
    none_behind false b g = refl

    by_test : (b : Bool) → int_eq y x ≡ b → (b || has_literal ys x) ≡ true → (has_literal ys x ≡ true → set (neg_ℤ x) ≡ false → is_conflict set ys ≡ false)
        → (set (neg_ℤ y) && is_conflict set ys) ≡ false
    by_test true e g rest = let own : set (neg_ℤ y) ≡ false = ap (λ z. set (neg_ℤ z)) (same_literal y x e) ∙ f in rw own refl
    by_test false e g rest = none_behind _ _ (rest g f)

-- a cut and a learned line
by_line : (formula : Formula) (s : State) (line : DerivationLine) (cut : ℕ) (x : ℤ) → Grounded formula s → IsRight (clauses_of formula s) line
    → unit_of (is_true (take cut s.trail)) line.clause ≡ Some x → Grounded formula record { trail = take cut s.trail; learned = s.learned ++ line ∷ [] }
by_line formula s line cut x g right unit = record {
  sound = sound_learn formula (lines_of s) (take cut s.trail) line (sound_cut formula (lines_of s) s.trail cut g.sound) (rw (sym (same_clauses formula (lines_of s) s.trail)) right);
  quiet = λ c e at d.
      let taken = get_taken s.trail cut c e at in
      let before : list_any (is_conflict (is_true (take c (take cut s.trail)))) (clauses_of formula s) ≡ false = rw taken.1 (g.quiet c e taken.0 d) in
      let own : is_conflict (is_true (take c (take cut s.trail))) line.clause ≡ false = not_false (is_true (take c (take cut s.trail))) line.clause x is.0 (negative c (is_true (take c (take cut s.trail)) (neg_ℤ x)) refl) in
      ap (list_any (is_conflict (is_true (take c (take cut s.trail))))) (grown formula s line (take cut s.trail))
      ∙ list_any-append (is_conflict (is_true (take c (take cut s.trail)))) (clauses_of formula s) (line.clause ∷ [])
      ∙ rw (before, own) refl;
}
  where
    is : (has_literal line.clause x ≡ true) × (is_open (is_true (take cut s.trail)) x ≡ true)
    is = unit_is (take cut s.trail) line.clause x unit

    negative : (c : ℕ) (b : Bool) → is_true (take c (take cut s.trail)) (neg_ℤ x) ≡ b → is_true (take c (take cut s.trail)) (neg_ℤ x) ≡ false
    negative c true h =
        let yes = true_in_all (take cut s.trail) c (neg_ℤ x) h in
        let no : true ≡ false = sym yes ∙ open_negative _ _ is.1 in
        absurd cc
    negative c false h = h

grounded_move : (formula : Formula) (s t : State) (move : Move) → Grounded formula s → Moves formula s move t → Grounded formula t
grounded_move formula s t (Propagate number) g m =
    let unit = unit_is s.trail m.clause m.literal m.unit in
    let over = is_over-tells formula.variables m.literal (has_over formula.variables m.clause m.literal (numbered_over formula.variables (clauses_of formula s) number m.clause (all_over formula s g) m.named) unit.0) in
    let named : numbered (all_clauses formula (lines_of s)) number ≡ Some m.clause = ap (λ clauses. numbered clauses number) (sym (same_clauses formula (lines_of s) s.trail)) ∙ m.named in
    let implied : IsSomeAnd (numbered (all_clauses formula (lines_of s)) number) (Implies s.trail m.literal) = rw named (unit_implies s.trail m.clause m.literal m.unit) in
    rw m.gives (by_entry formula s m.literal (Some number) g over unit.1 implied (λ e. absurd cc))
grounded_move formula s t (Decide literal) g m = rw m.gives (by_entry formula s literal None g m.over m.still_open tt (λ e. m.no_conflict))
grounded_move formula s t (Jump line cut) g m =
    let unit = unit_is (take cut s.trail) line.clause m.literal m.unit in
    let over = is_over-tells formula.variables m.literal (has_over formula.variables line.clause m.literal (line_over formula.variables (clauses_of formula s) line (all_over formula s g) m.right) unit.0) in
    let all = with_line formula (lines_of s) line in
    let place : length (clauses_of formula s) + 1 ≡ length (all_clauses formula (lines_of s)) + 1 = ap (λ zs. length zs + 1) (same_clauses formula (lines_of s) s.trail) in
    let named : numbered (all_clauses formula record { lines = s.learned ++ line ∷ [] }) (length (clauses_of formula s) + 1) ≡ Some line.clause =
    ap (λ clauses. numbered clauses (length (clauses_of formula s) + 1)) all ∙ rw place (numbered_last (all_clauses formula (lines_of s)) line.clause) in
    let implied : IsSomeAnd (numbered (all_clauses formula record { lines = s.learned ++ line ∷ [] }) (length (clauses_of formula s) + 1)) (Implies (take cut s.trail) m.literal) =
    rw named (unit_implies (take cut s.trail) line.clause m.literal m.unit) in
    rw m.gives
    (by_entry formula record { trail = take cut s.trail; learned = s.learned ++ line ∷ [] } m.literal (Some (length (clauses_of formula s) + 1)) (by_line formula s line cut m.literal g m.right m.unit) over unit.1 implied (λ e. absurd cc))

grounded : (formula : Formula) (s : State) (moves : List Move) (t : State) → Grounded formula s → Runs formula s moves t → Grounded formula t
grounded formula s [] t g run = rw (← run) g
grounded formula s (move ∷ moves) t g run = grounded formula run.0 moves t (grounded_move formula s run.0 move g run.1) run.2

-- ---- what is in a list

any_found : (test : List ℤ → Bool) (clauses : List (List ℤ)) → list_any test clauses ≡ true → (i : ℕ) × (clause : List ℤ) × (slice_get clauses i ≡ Some clause) × (test clause ≡ true)
any_found test [] h = absurd cc
any_found test (c ∷ cs) h = by_test (test c) refl h (any_found test cs)
  where
    by_test : (b : Bool) → test c ≡ b → (b || list_any test cs) ≡ true → (list_any test cs ≡ true → (i : ℕ) × (clause : List ℤ) × (slice_get cs i ≡ Some clause) × (test clause ≡ true))
        → (i : ℕ) × (clause : List ℤ) × (slice_get (c ∷ cs) i ≡ Some clause) × (test clause ≡ true)
    by_test true e g rest = (0, c, refl, e)
    by_test false e g rest = let r = rest g in (suc r.0, r.1, r.2, r.3)

some_fails : (test : Entry → Bool) (trail : List Entry) → list_all test trail ≡ false → (f : Entry) × (test f ≡ false)
some_fails test [] h = absurd cc
some_fails test (e ∷ trail) h = by_test (test e) refl h (some_fails test trail)
  where
    by_test : (b : Bool) → test e ≡ b → (b && list_all test trail) ≡ false → (list_all test trail ≡ false → (f : Entry) × (test f ≡ false)) → (f : Entry) × (test f ≡ false)
    by_test true g k rest = rest k
    by_test false g k rest = (e, g)

entry_of : (trail : List Entry) (x : ℤ) → is_true trail x ≡ true → (i : ℕ) × (f : Entry) × (slice_get trail i ≡ Some f) × (f.literal ≡ x)
entry_of [] x h = absurd cc
entry_of (e ∷ trail) x h = by_test (int_eq e.literal x) refl h (entry_of trail x)
  where
    by_test : (b : Bool) → int_eq e.literal x ≡ b → (b || is_true trail x) ≡ true → (is_true trail x ≡ true → (i : ℕ) × (f : Entry) × (slice_get trail i ≡ Some f) × (f.literal ≡ x))
        → (i : ℕ) × (f : Entry) × (slice_get (e ∷ trail) i ≡ Some f) × (f.literal ≡ x)
    by_test true g k rest = (0, e, refl, same_literal e.literal x g)
    by_test false g k rest = let r = rest k in (suc r.0, r.1, r.2, r.3)

some_open : (set : ℤ → Bool) (xs : List ℤ) → is_conflict set xs ≡ false → (y : ℤ) × (has_literal xs y ≡ true) × (set (neg_ℤ y) ≡ false)
some_open set [] h = absurd cc
some_open set (x ∷ xs) h = by_test (set (neg_ℤ x)) refl h (some_open set xs)
  where
    by_test : (b : Bool) → set (neg_ℤ x) ≡ b → (b && is_conflict set xs) ≡ false → (is_conflict set xs ≡ false → (y : ℤ) × (has_literal xs y ≡ true) × (set (neg_ℤ y) ≡ false))
        → (y : ℤ) × (has_literal (x ∷ xs) y ≡ true) × (set (neg_ℤ y) ≡ false)
    by_test true g k rest = let r = rest k in (r.0, or_behind (int_eq x r.0) _ r.1, r.2)
    by_test false g k rest = (x, rw (equal_literal x x refl) refl, g)

-- ---- the latest decided literal

record LastDecided (trail : List Entry) : Type 0 where
  cut : ℕ
  entry : Entry
  at : slice_get trail cut ≡ Some entry
  decided : entry.reason ≡ None
  later : (j : ℕ) (f : Entry) → cut < j → slice_get trail j ≡ Some f → is_some f.reason ≡ true

last_decided : (trail : List Entry) → (list_all (λ e. is_some e.reason) trail ≡ true) ⊎ LastDecided trail
last_decided [] = inl refl
last_decided (e ∷ trail) = by_rest (last_decided trail)
  where
    behind : list_all (λ f. is_some f.reason) trail ≡ true → (j : ℕ) (f : Entry) → 0 < j → slice_get (e ∷ trail) j ≡ Some f → is_some f.reason ≡ true
    behind all zero f low at = absurd (omega (arith, low))
    behind all (suc i) f low at = entry_has (λ g. is_some g.reason) trail i f all at

    by_reason : (r : Option ℕ) → e.reason ≡ r → list_all (λ f. is_some f.reason) trail ≡ true → (list_all (λ f. is_some f.reason) (e ∷ trail) ≡ true) ⊎ LastDecided (e ∷ trail)
    by_reason None h all = inr record { cut = 0; entry = e; at = refl; decided = h; later = behind all }
    by_reason (Some k) h all = inl (rw (h, all) refl)

    shifted : (l : LastDecided trail) (j : ℕ) (f : Entry) → suc l.cut < j → slice_get (e ∷ trail) j ≡ Some f → is_some f.reason ≡ true
    shifted l zero f low at = absurd (omega (arith, low))
    shifted l (suc i) f low at = l.later i f (omega (arith, low)) at

    by_rest : (list_all (λ f. is_some f.reason) trail ≡ true) ⊎ LastDecided trail → (list_all (λ f. is_some f.reason) (e ∷ trail) ≡ true) ⊎ LastDecided (e ∷ trail)
    by_rest (inl all) = by_reason e.reason refl all
    by_rest (inr l) = inr record { cut = suc l.cut; entry = l.entry; at = l.at; decided = l.decided; later = shifted l }

-- ---- the line of a set with one literal that isn't false

-- the set's literals that are false by a trail
abbrev held : (ℤ → Bool) → List Entry → List ℤ
held set [] = []
held set (f ∷ trail) = if set (neg_ℤ f.literal) then neg_ℤ f.literal ∷ held set trail else held set trail

held_is : (set : ℤ → Bool) (trail : List Entry) (z : ℤ) → has_literal (held set trail) z ≡ true → (set z ≡ true) × (is_true trail (neg_ℤ z) ≡ true)
held_is set [] z h = absurd cc
held_is set (f ∷ trail) z h = by_test (set (neg_ℤ f.literal)) refl h (held_is set trail z)
  where
    behind : (set z ≡ true) × (is_true trail (neg_ℤ z) ≡ true) → (set z ≡ true) × (is_true (f ∷ trail) (neg_ℤ z) ≡ true)
    behind r = (r.0, or_behind (int_eq f.literal (neg_ℤ z)) _ r.1)

    by_first : (c : Bool) → int_eq (neg_ℤ f.literal) z ≡ c → set (neg_ℤ f.literal) ≡ true → (c || has_literal (held set trail) z) ≡ true
        → (has_literal (held set trail) z ≡ true → (set z ≡ true) × (is_true trail (neg_ℤ z) ≡ true)) → (set z ≡ true) × (is_true (f ∷ trail) (neg_ℤ z) ≡ true)
    by_first true e own g rest =
        let same : neg_ℤ f.literal ≡ z = same_literal (neg_ℤ f.literal) z e in
        let here : int_eq f.literal (neg_ℤ z) ≡ true = equal_literal f.literal (neg_ℤ z) (sym (negated_twice f.literal) ∙ ap neg_ℤ same) in
        (ap set (sym same) ∙ own, rw here refl)
    by_first false e own g rest = behind (rest g)

    by_test : (b : Bool) → set (neg_ℤ f.literal) ≡ b → has_literal (if b then neg_ℤ f.literal ∷ held set trail else held set trail) z ≡ true
        → (has_literal (held set trail) z ≡ true → (set z ≡ true) × (is_true trail (neg_ℤ z) ≡ true)) → (set z ≡ true) × (is_true (f ∷ trail) (neg_ℤ z) ≡ true)
    by_test true e g rest = by_first (int_eq (neg_ℤ f.literal) z) refl e g rest
    by_test false e g rest = behind (rest g)

in_held : (set : ℤ → Bool) (trail : List Entry) (z : ℤ) → set z ≡ true → is_true trail (neg_ℤ z) ≡ true → has_literal (held set trail) z ≡ true
in_held set [] z s h = absurd cc
in_held set (f ∷ trail) z s h = by_first (int_eq f.literal (neg_ℤ z)) refl h (in_held set trail z s)
  where
    over : (b : Bool) → has_literal (held set trail) z ≡ true → has_literal (if b then neg_ℤ f.literal ∷ held set trail else held set trail) z ≡ true
    over true g = or_behind (int_eq (neg_ℤ f.literal) z) _ g
    over false g = g

    by_first : (c : Bool) → int_eq f.literal (neg_ℤ z) ≡ c → (c || is_true trail (neg_ℤ z)) ≡ true → (is_true trail (neg_ℤ z) ≡ true → has_literal (held set trail) z ≡ true)
        → has_literal (held set (f ∷ trail)) z ≡ true
    by_first true e g rest =
        let same : neg_ℤ f.literal ≡ z = ap neg_ℤ (same_literal f.literal (neg_ℤ z) e) ∙ negated_twice z in
        let own : set (neg_ℤ f.literal) ≡ true = ap set same ∙ s in
        rw (own, equal_literal (neg_ℤ f.literal) z same) refl
    by_first false e g rest = over (set (neg_ℤ f.literal)) (rest g)

-- a line that a jump learns, and the literal that it puts on the trail
record Learns (clauses : List (List ℤ)) (trail : List Entry) (number cut : ℕ) : Type 0 where
  line : DerivationLine
  literal : ℤ
  begins : line.first ≡ number
  right : IsRight clauses line
  reasons : list_all (λ step. is_implied_by trail step.0 step.1) line.steps ≡ true
  unit : unit_of (is_true (take cut trail)) line.clause ≡ Some literal

module _ (clauses : List (List ℤ)) (trail : List Entry) (n number cut : ℕ) (first : List ℤ) (is : IsTrail n trail) (named : numbered clauses number ≡ Some first) where
  abbrev before : ℤ → Bool
  before = is_true (take cut trail)

  learn : (front : ℕ) (set : ℤ → Bool) (steps : List (ℕ × ℤ)) (x : ℤ) → IsBack clauses trail first front set steps → set x ≡ true → is_open before x ≡ true
      → ((z : ℤ) → set z ≡ true → int_eq x z ≡ false → before (neg_ℤ z) ≡ true) → Learns clauses trail number cut
  learn front set steps x b own free others = record {
    line = record { clause = x ∷ held set (take cut trail); first = number; steps = steps };
    literal = x;
    begins = refl;
    right = rw (named, b.chain) (λ z. sym (same z));
    reasons = b.reasons;
    unit = rw (open_negative (before x) (before (neg_ℤ x)) free, none, free) refl;
  }
    where
      none : remaining before (held set (take cut trail)) ≡ []
      none = nothing_false before (held set (take cut trail)) (λ y h. (held_is set (take cut trail) y h).1)

      is_in : (z : ℤ) → (int_eq x z || has_literal (held set (take cut trail)) z) ≡ true → set z ≡ true
      is_in z h = by_side (or_cases _ _ h)
        where
          by_side : (int_eq x z ≡ true) ⊎ (has_literal (held set (take cut trail)) z ≡ true) → set z ≡ true
          by_side (inl e) = ap set (sym (same_literal x z e)) ∙ own
          by_side (inr e) = (held_is set (take cut trail) z e).0

      from_set : (z : ℤ) → set z ≡ true → (int_eq x z || has_literal (held set (take cut trail)) z) ≡ true
      from_set z h = by_test (int_eq x z) refl
        where
          by_test : (b : Bool) → int_eq x z ≡ b → (b || has_literal (held set (take cut trail)) z) ≡ true
          by_test true e = refl
          by_test false e = in_held set (take cut trail) z h (others z h e)

      same : (z : ℤ) → has_literal (x ∷ held set (take cut trail)) z ≡ set z
      same z = same_test (int_eq x z || has_literal (held set (take cut trail)) z) (set z) (is_in z) (from_set z)

  -- at the decided literal
  at_cut : (d : Entry) (set : ℤ → Bool) (steps : List (ℕ × ℤ)) (y : ℤ) → slice_get trail cut ≡ Some d → IsBack clauses trail first (cut + 1) set steps → set y ≡ true → before (neg_ℤ y) ≡ false
      → Learns clauses trail number cut
  at_cut d set steps y at b own live = learn (cut + 1) set steps (neg_ℤ d.literal) b in_set free others
    where
      false_there : (z : ℤ) → set z ≡ true → (before (neg_ℤ z) || int_eq (neg_ℤ d.literal) z) ≡ true
      false_there z h = sym (next_against trail cut d z at) ∙ b.falses z h

      left_over : (p q : Bool) → p ≡ false → (p || q) ≡ true → q ≡ true
      left_over true q e h = absurd cc
      left_over false q e h = h

      right_over : (p q : Bool) → q ≡ false → (p || q) ≡ true → p ≡ true
      right_over true q e h = refl
      right_over false true e h = absurd cc
      right_over false false e h = h

      in_set : set (neg_ℤ d.literal) ≡ true
      in_set = ap set (same_literal (neg_ℤ d.literal) y (left_over _ _ live (false_there y own))) ∙ own

      free : is_open before (neg_ℤ d.literal) ≡ true
      free =
          let one = free_before n trail cut d (neg_ℤ d.literal) is.over is.distinct at (inr refl) in
          let two = free_before n trail cut d (neg_ℤ (neg_ℤ d.literal)) is.over is.distinct at (inl (negated_twice d.literal)) in
          rw (one, two) refl

      others : (z : ℤ) → set z ≡ true → int_eq (neg_ℤ d.literal) z ≡ false → before (neg_ℤ z) ≡ true
      others z h e = right_over _ _ e (false_there z h)

  module _ (l : LastDecided trail) (at_last : l.cut ≡ cut)
      (reasons : (j : ℕ) (e : Entry) (k : ℕ) → slice_get trail j ≡ Some e → e.reason ≡ Some k → IsSomeAnd (numbered clauses k) (Implies (take j trail) e.literal)) where
    -- an implied literal whose negation is in the clause so far
    over_implied : (q : ℕ) (e : Entry) (k : ℕ) (set : ℤ → Bool) (steps : List (ℕ × ℤ)) → cut < q → slice_get trail q ≡ Some e → e.reason ≡ Some k → set (neg_ℤ e.literal) ≡ true
        → IsBack clauses trail first (q + 1) set steps
        → ((next : ℤ → Bool) (more : List (ℕ × ℤ)) (y : ℤ) → IsBack clauses trail first q next more → next y ≡ true → before (neg_ℤ y) ≡ false → Learns clauses trail number cut)
        → Learns clauses trail number cut
    over_implied q e k set steps low at r own b rest = by_others (list_all is_well trail) refl
      where
        is_well : Entry → Bool
        is_well f = not (set (neg_ℤ f.literal)) || (int_eq f.literal e.literal || before f.literal)

        free : is_open before (neg_ℤ e.literal) ≡ true
        free = rw (none (neg_ℤ e.literal) (inr refl), none (neg_ℤ (neg_ℤ e.literal)) (inl (negated_twice e.literal))) refl
          where
            none : (x : ℤ) → (x ≡ e.literal) ⊎ (x ≡ neg_ℤ e.literal) → before x ≡ false
            none x side = by_test (before x) refl
              where
                by_test : (t : Bool) → before x ≡ t → before x ≡ false
                by_test true h =
                    let yes = true_later trail cut q x (omega (arith, low)) h in
                    let no : true ≡ false = sym yes ∙ free_before n trail q e x is.over is.distinct at side in
                    absurd cc
                by_test false h = h

        well_told : (f : Entry) (z : ℤ) → f.literal ≡ neg_ℤ z → set z ≡ true → int_eq (neg_ℤ e.literal) z ≡ false → (a b c : Bool) → set (neg_ℤ f.literal) ≡ a → int_eq f.literal e.literal ≡ b → before f.literal ≡ c
            → (not a || (b || c)) ≡ true → before (neg_ℤ z) ≡ true
        well_told f z lit own_z other false b c u v w h =
            let back : set (neg_ℤ f.literal) ≡ true = ap (λ x. set (neg_ℤ x)) lit ∙ ap set (negated_twice z) ∙ own_z in
            let no : true ≡ false = sym back ∙ u in
            absurd cc
        well_told f z lit own_z other true true c u v w h =
            let same : neg_ℤ e.literal ≡ z = ap neg_ℤ (sym (same_literal f.literal e.literal v)) ∙ ap neg_ℤ lit ∙ negated_twice z in
            let no : true ≡ false = sym (equal_literal (neg_ℤ e.literal) z same) ∙ other in
            absurd cc
        well_told f z lit own_z other true false true u v w h = ap before (sym lit) ∙ w
        well_told f z lit own_z other true false false u v w h = absurd cc

        others : list_all is_well trail ≡ true → (z : ℤ) → set z ≡ true → int_eq (neg_ℤ e.literal) z ≡ false → before (neg_ℤ z) ≡ true
        others all z h other =
            let found = entry_of trail (neg_ℤ z) (true_in_all trail (q + 1) (neg_ℤ z) (b.falses z h)) in
            well_told found.1 z found.3 h other _ _ _ refl refl refl (entry_has is_well trail found.0 found.1 all found.2)

        ill_told : (f : Entry) (p t c : Bool) → set (neg_ℤ f.literal) ≡ p → int_eq f.literal e.literal ≡ t → before f.literal ≡ c → (not p || (t || c)) ≡ false
            → (set (neg_ℤ f.literal) ≡ true) × (int_eq f.literal e.literal ≡ false) × (before f.literal ≡ false)
        ill_told f true false false u v w h = (u, v, w)
        ill_told f true true c u v w h = absurd cc
        ill_told f true false true u v w h = absurd cc
        ill_told f false t c u v w h = absurd cc

        onward : (f : Entry) → (set (neg_ℤ f.literal) ≡ true) × (int_eq f.literal e.literal ≡ false) × (before f.literal ≡ false) → Learns clauses trail number cut
        onward f ill = by_clause (numbered clauses k) refl (reasons q e k at r)
          where
            by_clause : (found : Option (List ℤ)) → numbered clauses k ≡ found → IsSomeAnd found (Implies (take q trail) e.literal) → Learns clauses trail number cut
            by_clause None g told = absurd told
            by_clause (Some c) g told =
                let next : ℤ → Bool = resolvent set (neg_ℤ e.literal) (has_literal c) in
                let back =
                back_by_reason clauses trail first q e k set next steps at own r (reasons q e k at r)
                (λ clause h x. let same : c ≡ clause = cc in ap (λ w. resolvent set (neg_ℤ e.literal) (has_literal w) x) same) b in
                let apart : int_eq (neg_ℤ f.literal) (neg_ℤ e.literal) ≡ false = negation_test (neg_ℤ f.literal) e.literal ∙ ap (λ x. int_eq x e.literal) (negated_twice f.literal) ∙ ill.1 in
                rest next (steps ++ (k, neg_ℤ e.literal) ∷ []) (neg_ℤ f.literal) back (rw (ill.0, apart) refl) (ap before (negated_twice f.literal) ∙ ill.2)

        by_others : (t : Bool) → list_all is_well trail ≡ t → Learns clauses trail number cut
        by_others true h = learn (q + 1) set steps (neg_ℤ e.literal) b own free (others h)
        by_others false h = let f = some_fails is_well trail h in onward f.0 (ill_told f.0 _ _ _ refl refl refl f.1)

    -- back along the trail, with a literal of the clause so far that isn't false before the cut
    go_on : (p : ℕ) (set : ℤ → Bool) (steps : List (ℕ × ℤ)) (y : ℤ) → cut < p → p ≤ length trail → IsBack clauses trail first p set steps → set y ≡ true → before (neg_ℤ y) ≡ false
        → Learns clauses trail number cut
    go_on zero set steps y low high b own live = absurd (omega (arith, low))
    go_on (suc q) set steps y low high b own live = by_place (nat_eq q cut) refl (λ next more z. go_on q next more z)
      where
        e : Entry
        e = get_or trail q record { literal = y; reason = None }

        at : slice_get trail q ≡ Some e
        at = slice_get-get_or trail q _ (omega (arith, high))

        there : IsBack clauses trail first (q + 1) set steps
        there = rw (add-one q) b

        by_reason : cut < q → (r : Option ℕ) → e.reason ≡ r → is_some r ≡ true → set (neg_ℤ e.literal) ≡ true
            → ((next : ℤ → Bool) (more : List (ℕ × ℤ)) (z : ℤ) → cut < q → q ≤ length trail → IsBack clauses trail first q next more → next z ≡ true → before (neg_ℤ z) ≡ false
            → Learns clauses trail number cut)
            → Learns clauses trail number cut
        by_reason above None r some marked rest = absurd cc
        by_reason above (Some k) r some marked rest = over_implied q e k set steps above at r marked there (λ next more z back. rest next more z above (omega (arith, high)) back)

        by_marked : cut < q → (t : Bool) → set (neg_ℤ e.literal) ≡ t
            → ((next : ℤ → Bool) (more : List (ℕ × ℤ)) (z : ℤ) → cut < q → q ≤ length trail → IsBack clauses trail first q next more → next z ≡ true → before (neg_ℤ z) ≡ false
            → Learns clauses trail number cut)
            → Learns clauses trail number cut
        by_marked above true h rest = by_reason above e.reason refl (l.later q e (rw at_last above) at) h rest
        by_marked above false h rest = rest set steps y above (omega (arith, high)) (back_over clauses trail first q e set steps at h there) own live

        by_place : (t : Bool) → nat_eq q cut ≡ t
            → ((next : ℤ → Bool) (more : List (ℕ × ℤ)) (z : ℤ) → cut < q → q ≤ length trail → IsBack clauses trail first q next more → next z ≡ true → before (neg_ℤ z) ≡ false
            → Learns clauses trail number cut)
            → Learns clauses trail number cut
        by_place true h rest =
            let same : q ≡ cut = (Decides-eqb q cut).0 h in
            at_cut l.entry set steps y (rw (← at_last) l.at) (rw same at there) own live
        by_place false h rest =
            let apart : q ≡ cut → ⊥ = λ s. let yes = (Decides-eqb q cut).1 s in let no : true ≡ false = sym yes ∙ h in absurd cc in
            by_marked (omega (arith, low, apart)) (set (neg_ℤ e.literal)) refl rest

-- ---- where a clause is false

conflict_moves : (formula : Formula) (s : State) → Grounded formula s → list_any (is_conflict (is_true s.trail)) (clauses_of formula s) ≡ true → (IsFinished formula s → ⊥)
    → (move : Move) × (t : State) × Moves formula s move t
conflict_moves formula s g some unfinished = by_decided (last_decided s.trail)
  where
    found : (i : ℕ) × (clause : List ℤ) × (slice_get (clauses_of formula s) i ≡ Some clause) × (is_conflict (is_true s.trail) clause ≡ true)
    found = any_found (is_conflict (is_true s.trail)) (clauses_of formula s) some

    reasons : (j : ℕ) (e : Entry) (k : ℕ) → slice_get s.trail j ≡ Some e → e.reason ≡ Some k → IsSomeAnd (numbered (clauses_of formula s) k) (Implies (take j s.trail) e.literal)
    reasons j e k at r = rw (same_clauses formula (lines_of s) s.trail) (g.sound.reasons j e k at r)

    live : (c : ℕ) (d : Entry) → slice_get s.trail c ≡ Some d → d.reason ≡ None → (b : Bool) → is_conflict (is_true (take c s.trail)) found.1 ≡ b → is_conflict (is_true (take c s.trail)) found.1 ≡ false
    live c d at decided true h =
        let yes = any_at (clauses_of formula s) found.0 found.1 (is_conflict (is_true (take c s.trail))) found.2 h in
        let no : true ≡ false = sym yes ∙ g.quiet c d at decided in
        absurd cc
    live c d at decided false h = h

    by_decided : (list_all (λ e. is_some e.reason) s.trail ≡ true) ⊎ LastDecided s.trail → (move : Move) × (t : State) × Moves formula s move t
    by_decided (inl none) = absurd (unfinished (inr record { conflict = some; none_decided = none }))
    by_decided (inr l) =
        let y = some_open (is_true (take l.cut s.trail)) found.1 (live l.cut l.entry l.at l.decided _ refl) in
        let begun = back_begins (clauses_of formula s) s.trail found.1 (length s.trail) (has_literal found.1) [] (λ y h. ap (λ t. is_true t (neg_ℤ y)) (take_all (length s.trail) s.trail (omega arith)) ∙ conflict_falses s.trail found.1 y found.3 h) (λ x. refl) refl in
        let learns =
        go_on (clauses_of formula s) s.trail formula.variables (suc found.0) l.cut found.1 g.sound.kept found.2 l refl reasons (length s.trail) (has_literal found.1) [] y.0 (at_entry s.trail l.cut l.entry l.at).0
        (omega arith) begun y.1 y.2 in (
          Jump learns.line l.cut,
          jumped formula s learns.line l.cut learns.literal,
          record {
            literal = learns.literal;
            conflict = rw (learns.begins, found.2) found.3;
            right = learns.right;
            reasons = learns.reasons;
            decided = rw l.at l.decided;
            unit = learns.unit;
            gives = refl;
          },
        )

-- ---- where none is

same_open : (set : ℤ → Bool) (x : ℤ) → is_open set (neg_ℤ x) ≡ is_open set x
same_open set x = rw (negated_twice x) (turned (set (neg_ℤ x)) (set x))
  where
    turned : (a b : Bool) → not (a || b) ≡ not (b || a)
    turned true true = refl
    turned true false = refl
    turned false true = refl
    turned false false = refl

open_variable : (n : ℕ) (set : ℤ → Bool) → ((x : ℤ) × IsOver n x × (is_open set x ≡ true)) ⊎ ((x : ℤ) → IsOver n x → is_open set x ≡ false)
open_variable zero set = inr (λ x over. absurd (omega (arith, over.0, over.1)))
open_variable (suc n) set = by_rest (open_variable n set)
  where
    last : is_open set (pos (suc n)) ≡ false → ((x : ℤ) → IsOver n x → is_open set x ≡ false) → (x : ℤ) → IsOver (suc n) x → is_open set x ≡ false
    last own all (pos zero) over = absurd (omega (arith, over.0))
    last own all (pos (suc k)) over = by_test (nat_eq k n) refl
      where
        by_test : (t : Bool) → nat_eq k n ≡ t → is_open set (pos (suc k)) ≡ false
        by_test true h = let same : k ≡ n = (Decides-eqb k n).0 h in rw same own
        by_test false h =
            let apart : k ≡ n → ⊥ = λ e. let yes = (Decides-eqb k n).1 e in let no : true ≡ false = sym yes ∙ h in absurd cc in
            all (pos (suc k)) (omega arith, omega (arith, over.1, apart))
    last own all (negsuc k) over = by_test (nat_eq k n) refl
      where
        by_test : (t : Bool) → nat_eq k n ≡ t → is_open set (negsuc k) ≡ false
        by_test true h = let same : k ≡ n = (Decides-eqb k n).0 h in rw same (same_open set (pos (suc n)) ∙ own)
        by_test false h =
            let apart : k ≡ n → ⊥ = λ e. let yes = (Decides-eqb k n).1 e in let no : true ≡ false = sym yes ∙ h in absurd cc in
            all (negsuc k) (omega arith, omega (arith, over.1, apart))

    by_own : (t : Bool) → is_open set (pos (suc n)) ≡ t → ((x : ℤ) → IsOver n x → is_open set x ≡ false) → ((x : ℤ) × IsOver (suc n) x × (is_open set x ≡ true)) ⊎ ((x : ℤ) → IsOver (suc n) x → is_open set x ≡ false)
    by_own true h all = inl (pos (suc n), (omega arith, omega arith), h)
    by_own false h all = inr (last h all)

    by_rest : ((x : ℤ) × IsOver n x × (is_open set x ≡ true)) ⊎ ((x : ℤ) → IsOver n x → is_open set x ≡ false)
        → ((x : ℤ) × IsOver (suc n) x × (is_open set x ≡ true)) ⊎ ((x : ℤ) → IsOver (suc n) x → is_open set x ≡ false)
    by_rest (inl r) = inl (r.0, (r.1.0, omega (arith, r.1.1)), r.2)
    by_rest (inr all) = by_own (is_open set (pos (suc n))) refl all

quiet_moves : (formula : Formula) (s : State) → list_any (is_conflict (is_true s.trail)) (clauses_of formula s) ≡ false → (IsFinished formula s → ⊥)
    → (move : Move) × (t : State) × Moves formula s move t
quiet_moves formula s none unfinished = by_unit (list_any (λ clause. is_some (unit_of (is_true s.trail) clause)) (clauses_of formula s)) refl
  where
    by_literal : (i : ℕ) (clause : List ℤ) → slice_get (clauses_of formula s) i ≡ Some clause → (found : Option ℤ) → unit_of (is_true s.trail) clause ≡ found → is_some found ≡ true
        → (move : Move) × (t : State) × Moves formula s move t
    by_literal i clause at None e h = absurd cc
    by_literal i clause at (Some x) e h =
        (Propagate (suc i), record { trail = with_entry s.trail x (Some (suc i)); learned = s.learned }, record { clause = clause; literal = x; named = at; unit = e; gives = refl })

    by_variable : list_any (λ clause. is_some (unit_of (is_true s.trail) clause)) (clauses_of formula s) ≡ false
        → ((x : ℤ) × IsOver formula.variables x × (is_open (is_true s.trail) x ≡ true)) ⊎ ((x : ℤ) → IsOver formula.variables x → is_open (is_true s.trail) x ≡ false)
        → (move : Move) × (t : State) × Moves formula s move t
    by_variable units (inl r) =
        (Decide r.0, record { trail = with_entry s.trail r.0 None; learned = s.learned }, record { no_conflict = none; no_unit = units; over = r.1; still_open = r.2; gives = refl })
    by_variable units (inr all) = absurd (unfinished (inl record { no_conflict = none; all = all }))

    by_unit : (t : Bool) → list_any (λ clause. is_some (unit_of (is_true s.trail) clause)) (clauses_of formula s) ≡ t → (move : Move) × (t : State) × Moves formula s move t
    by_unit true h = let f = any_found (λ clause. is_some (unit_of (is_true s.trail) clause)) (clauses_of formula s) h in by_literal f.0 f.1 f.2 _ refl f.3
    by_unit false h = by_variable h (open_variable formula.variables (is_true s.trail))

pub moves_on_law : MovesOn
moves_on_law formula moves s is run unfinished = by_conflict (list_any (is_conflict (is_true s.trail)) (clauses_of formula s)) refl
  where
    by_conflict : (t : Bool) → list_any (is_conflict (is_true s.trail)) (clauses_of formula s) ≡ t → (move : Move) × (t : State) × Moves formula s move t
    by_conflict true h = conflict_moves formula s (grounded formula first_state moves s (grounded_first formula is) run) h unfinished
    by_conflict false h = quiet_moves formula s h unfinished
