-- Histories end.
use Rattle.std.proofs.Common.{◌≡◌, ℕ, ◌+◌, ◌<◌, ◌≤◌, ◌^◌, Err, Ok, Result, IfOk, true, eqb, List, [], ◌∷◌, ◌++◌, length, take, map, refl, sym, ◌∙◌, arith, rules, Option, None, Some}
use Rattle.std.specs.Prelude.{ℤ, slice_get, IsSomeAnd}
use Rattle.std.specs.List.{IsDistinct, list_all}
use Rattle.std.proofs.lemmas.List.{length-append, map-append}
use Rattle.std.proofs.lemmas.List.Folds.{list_all-append}
use Rattle.cnf.specs.declared.derivation.DerivationLine.{DerivationLine}
use Rattle.cnf.specs.declared.formula.Formula.{Formula}
use Rattle.fq_core.specs.declared.memory.Memory.{Memory}
use Rattle.search.specs.declared.found.Found.{Found}
use Rattle.search.specs.declared.found.Found.TheVariants as found
use Rattle.search.specs.declared.moves.Move.{Move}
use Rattle.search.specs.declared.moves.Move.TheVariants.{Propagate, Decide, Jump}
use Rattle.search.specs.Laws.{HistoriesEnd, IsFormula, TrailsRise, is_over, number_of}
use Rattle.search.specs.declared.trail.Entry.{Entry}
use Rattle.search.specs.Trails.{IsTrail, places}
use Rattle.search.specs.Nexts.{HasEnded, IsFound}
use Rattle.search.specs.Machine.{is_true, State, Moves, Runs, Propagates, Jumps, clauses_of, first_state, is_open, with_entry}
use Rattle.search.proofs.KeptLaws.{and_left, and_right, has_over, is_over-from, is_over-tells, line_over, numbered_over, trail_more, trail_short, trail_taken, unit_is}
use Rattle.search.proofs.TrailLaws.{below_power, rises_by_cut, rises_by_entry}

-- the trail has distinct ones of the variables, and all clauses are over them
pub record Kept (formula : Formula) (s : State) : Type 0 where
  pub trail : IsTrail formula.variables s.trail
  pub clauses : list_all (list_all (is_over formula.variables)) (clauses_of formula s) ≡ true

pub no_places : IsDistinct eqb (places [])
unfolding IsDistinct
no_places = search rules

pub kept_first : (formula : Formula) → IsFormula formula → Kept formula first_state
kept_first formula is = record {
  trail = record { over = refl; distinct = no_places };
  clauses = list_all-append (list_all (is_over formula.variables)) formula.clauses [] ∙ rw is refl;
}

-- ---- what a move keeps, and the trail's number

pub record Onward (formula : Formula) (s t : State) : Type 0 where
  pub kept : Kept formula t
  pub rises : number_of formula.variables s.trail < number_of formula.variables t.trail

-- one more entry, and the same clauses
by_entry : (formula : Formula) (s t : State) (x : ℤ) (reason : Option ℕ) → Kept formula s → is_over formula.variables x ≡ true → is_open (is_true s.trail) x ≡ true
    → t ≡ record { trail = with_entry s.trail x reason; learned = s.learned } → Onward formula s t
by_entry formula s t x reason k over free is =
    let longer : IsTrail formula.variables (with_entry s.trail x reason) = trail_more formula.variables s.trail x reason (is_over-tells formula.variables x over) free k.trail in
    let short : length (s.trail ++ record { literal = x; reason = reason } ∷ []) ≤ formula.variables = trail_short formula.variables _ longer in
    let count : length (s.trail ++ record { literal = x; reason = reason } ∷ []) ≡ length s.trail + 1 = length-append s.trail _ in
    rw is record {
      kept = record { trail = longer; clauses = k.clauses };
      rises = rises_by_entry formula.variables s.trail _ (omega arith);
    }

by_propagation : (formula : Formula) (s t : State) (number : ℕ) → Kept formula s → Propagates formula s number t → Onward formula s t
by_propagation formula s t number k m =
    let unit = unit_is s.trail m.clause m.literal m.unit in
    let over = has_over formula.variables m.clause m.literal (numbered_over formula.variables (clauses_of formula s) number m.clause k.clauses m.named) unit.0 in
    by_entry formula s t m.literal (Some number) k over unit.1 m.gives

-- a clause that follows from clauses over the variables is over them too
one_line : (n : ℕ) (clauses : List (List ℤ)) (learned : List DerivationLine) (line : DerivationLine)
    → list_all (list_all (is_over n)) (clauses ++ map (λ line. line.clause) learned) ≡ true → list_all (is_over n) line.clause ≡ true
    → list_all (list_all (is_over n)) (clauses ++ map (λ line. line.clause) (learned ++ line ∷ [])) ≡ true
one_line n clauses learned line all over =
    let old = map (λ (line : DerivationLine). line.clause) learned in
    let parts = sym (list_all-append (list_all (is_over n)) clauses old) ∙ all in
    let own : list_all (list_all (is_over n)) clauses ≡ true = and_left _ _ parts in
    let before : list_all (list_all (is_over n)) old ≡ true = and_right _ _ parts in
    let grown = map-append (λ (line : DerivationLine). line.clause) learned (line ∷ []) in
    let last = list_all-append (list_all (is_over n)) old (line.clause ∷ []) in
    list_all-append (list_all (is_over n)) clauses _ ∙ rw (own, grown, last, before, over) refl

by_jump : (formula : Formula) (s t : State) (line : DerivationLine) (cut : ℕ) → Kept formula s → Jumps formula s line cut t → Onward formula s t
by_jump formula s t line cut k m =
    let over = line_over formula.variables (clauses_of formula s) line k.clauses m.right in
    let unit = unit_is (take cut s.trail) line.clause m.literal m.unit in
    let literal_over = is_over-tells formula.variables m.literal (has_over formula.variables line.clause m.literal over unit.0) in
    rw m.gives record {
      kept = record {
        trail = trail_more formula.variables (take cut s.trail) m.literal _ literal_over unit.1 (trail_taken formula.variables s.trail cut no_places k.trail);
        clauses = one_line formula.variables formula.clauses s.learned line k.clauses over;
      };
      rises = by_decided (slice_get s.trail cut) refl m.decided;
    }
  where
    e : Entry
    e = record { literal = m.literal; reason = Some (length (clauses_of formula s) + 1) }

    by_decided : (found : Option Entry) → slice_get s.trail cut ≡ found → IsSomeAnd found (λ d. d.reason ≡ None)
        → number_of formula.variables s.trail < number_of formula.variables (take cut s.trail ++ e ∷ [])
    by_decided None at d = absurd d
    by_decided (Some decided) at d = rises_by_cut formula.variables s.trail cut decided e _ at d refl (trail_short formula.variables s.trail k.trail)

pub onward : (formula : Formula) (s t : State) (move : Move) → Kept formula s → Moves formula s move t → Onward formula s t
onward formula s t (Propagate number) k m = by_propagation formula s t number k m
onward formula s t (Decide literal) k m = by_entry formula s t literal None k (is_over-from formula.variables literal m.over) m.still_open m.gives
onward formula s t (Jump line cut) k m = by_jump formula s t line cut k m

-- ---- histories

pub record Behind (formula : Formula) (s : State) (moves : List Move) (t : State) : Type 0 where
  pub kept : Kept formula t
  pub risen : number_of formula.variables s.trail + length moves ≤ number_of formula.variables t.trail

pub behind : (formula : Formula) (s : State) (moves : List Move) (t : State) → Kept formula s → Runs formula s moves t → Behind formula s moves t
behind formula s [] t k run = rw (← run) record { kept = k; risen = omega arith }
behind formula s (move ∷ moves) t k run =
    let step = onward formula s run.0 move k run.1 in
    let rest = behind formula run.0 moves t step.kept run.2 in
    record { kept = rest.kept; risen = omega (arith, step.rises, rest.risen) }

pub trails_rise_law : TrailsRise
trails_rise_law formula before s move t is run m = (onward formula s t move (behind formula first_state before s (kept_first formula is) run).kept m).rises

pub histories_end_law : HistoriesEnd
histories_end_law formula moves s is run =
    omega (arith, (behind formula first_state moves s (kept_first formula is) run).risen, below_power formula.variables s.trail)

-- ---- budgets that are enough

-- a history of so many moves would be too long
pub spent_never : (formula : Formula) (budget : ℕ) → IsFormula formula → 3 ^ formula.variables ≤ budget → (r : Result Found Memory) → IfOk r (IsFound formula budget) → IfOk r HasEnded
spent_never formula budget is most (Err e) h = tt
spent_never formula budget is most (Ok (found.Model model)) h = tt
spent_never formula budget is most (Ok (found.NoModel derivation)) h = tt
spent_never formula budget is most (Ok (found.Spent history)) h =
    let short = histories_end_law formula history.moves h.1.0 is h.1.1 in
    absurd (omega (arith, h.0, short, most))
