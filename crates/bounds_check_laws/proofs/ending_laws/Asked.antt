-- Ends that a plan asks for.
use Rattle.std.proofs.Common.{◌≡◌, ℕ, Bool, true, false, List, [], ◌∷◌, length, map, Option, Some, None, refl, sym, ap, subst, ◌∙◌, ⊎_elim, inl, inr, arith}
use Rattle.std.specs.Prelude.{◌||◌, IsTrue, slice_get, slice_index}
use Rattle.std.specs.List.{AllZip}
use Rattle.std.proofs.lemmas.Bool.{cases_eq, eq-eqb}
use Rattle.cfa.specs.Contexts.{IsWalk, Pair, first_pair}
use Rattle.cfa.specs.States.{IsState}
use Rattle.cfa.specs.declared.parts.Function.{Function}
use Rattle.cfa.specs.declared.parts.GraphParts.{GraphParts}
use Rattle.cfa.specs.declared.state.Predicates.{Predicates}
use Rattle.cfa.specs.declared.state.State.{State}
use Rattle.c_meaning.proofs.PairLaws.{run_states, runs_walk}
use Rattle.c_meaning.specs.Pairs.{Fits, pair_along, pairs_along}
use Rattle.c_meaning.specs.Runs.{Move, Run, counts, last_in, last_state, state_moved, states_of}
use Rattle.c_meaning.specs.Steps.{next}
use Rattle.c_meaning.specs.declared.ends.Ends.{Ends}
use Rattle.c_meaning.specs.declared.ends.Ends.TheVariants as counted
use Rattle.c_meaning.specs.declared.input.Input.{Input}
use Rattle.c_meaning.specs.declared.stepped.Stepped.{Stepped}
use Rattle.c_meaning.specs.declared.stepped.Stepped.TheVariants.{Moved, Returned, Trapped, Blocked, TooDeep}
use Rattle.path_runner.specs.Counted.{counts_end}
use Rattle.path_runner.specs.Paths.{end_at, record_of}
use Rattle.patterns.proofs.Forms.{form_letter}
use Rattle.patterns.specs.Letters.{form}
use Rattle.patterns.specs.Match.{Form, letter}
use Rattle.patterns.specs.Paths.{state_in, step_of}
use Rattle.patterns.specs.Segments.{HasSegment}
use Rattle.patterns.specs.declared.letter.Letter.{Letter}
use Rattle.patterns.specs.declared.letter.Letter.TheVariants.{Nodes}
use Rattle.goals.specs.Forms.{Pattern}
use Rattle.goals.specs.GoalForm.{GoalForm}
use Rattle.goals.specs.declared.plan.Plan.{Plan}
use Rattle.measurer_hits.specs.hits.Hits.{Hits, MeetsPassing, path_in}
use Rattle.measurer_hits.proofs.run_laws.Ends.{ends_are_runs}
use Rattle.measurer_hits.proofs.run_laws.Leaving.{none_hits_at_all}
use Rattle.bounds_check_laws.proofs.ending_laws.Exits.{exit_goes}
use Rattle.bounds_check_laws.proofs.ending_laws.Stays.{staying_inputs_end_soon}
use Rattle.bounds_check_laws.specs.ending_laws.Asking.{AsksFor, AsksForEachEnd, IsLedTo}
use Rattle.bounds_check_laws.specs.ending_laws.Ends.{EndsSoon}
use Rattle.bounds_check_laws.specs.ending_laws.Laws.{CountedEndsReturn, EachRunReturns, NoRunTimeError}

-- ---- where control comes to

module _ (parts : GraphParts) (entry : Function) where
  led_to : (p : Pair) (s : State) (ms : List Move) → IsWalk parts p (pairs_along parts p (map (λ (m : Move). m.edge) ms)) → AllZip Fits (p ∷ pairs_along parts p (map (λ (m : Move). m.edge) ms)) (states_of s ms) → IsLedTo parts entry s.node → IsLedTo parts entry (last_state s ms).node
  led_to p s [] walk fits led = led
  led_to p s (m ∷ ms) walk fits led =
      let q = pair_along parts p m.edge in
      let reaches : walk.0.1.target ≡ m.target.node = sym (ap (λ (x : Pair). x.node) walk.0.2.reaches) ∙ fits.1.0.node in
      led_to q m.target ms walk.1 fits.1 (inr (walk.0.0, walk.0.1, walk.0.2.edge, reaches))

-- ---- the pattern of one node

last_index : (f : State → ℕ) (s : State) (ms : List Move) → slice_index (map f (states_of s ms)) (length (map (λ (m : Move). m.edge) ms)) ≡ f (last_state s ms)
last_index f s [] = refl
last_index f s (m ∷ ms) = last_index f m.target ms

in_one : (node n mask : ℕ) → n ≡ node → state_in n mask (Nodes (node ∷ [])) ≡ true
in_one node n mask same = ap (λ (b : Bool). b || false) (eq-eqb node n (sym same))

counted_end : (ends : Ends) (x : Stepped) → IsTrue (counts ends x) → IsTrue (counts_end ends (end_at x))
counted_end ends (Moved at to) h = absurd cc
counted_end ends (Returned value) h = h
counted_end ends (Trapped trap) h = h
counted_end ends Blocked h = h
counted_end ends TooDeep h = h

module _ (parts : GraphParts) (entry : Function) (p : Predicates) (plan : Plan) (ends : Ends) (input : Input) (asks : AsksForEachEnd parts entry plan) where
  -- a run hits the goal of the node at which it ends
  hits_end : (r : Run) (goal : GoalForm) → IsTrue (counts ends (next parts input (last_in r))) → AsksFor (last_in r).node goal → Hits plan ends goal (record_of parts input p r)
  hits_end r goal counted asked =
      let path = path_in (record_of parts input p r) in
      let n = (last_in r).node in
      let last = length path.edges in
      let there : (step_of path last).state (Nodes (n ∷ [])) ≡ true = in_one n (slice_index path.nodes last) (slice_index path.masks last) (last_index (λ (s : State). s.node) r.first r.moves) in
      let is : form goal.pattern ≡ letter (Nodes (n ∷ [])) = ap (λ (q : Pattern). form q) asked ∙ form_letter (Nodes (n ∷ [])) in
      let one : HasSegment plan.first plan.last (letter (Nodes (n ∷ []))) path = record {
        from = last;
        to = last;
        forward = omega arith;
        within = omega arith;
        at_first = λ first. let no = asks.first in absurd cc;
        at_last = λ h. refl;
        matches = inl (refl, there);
      } in
      record {
        counted = counted_end ends (next parts input (last_in r)) counted;
        goal_matches = subst (λ (q : Form Letter). HasSegment plan.first plan.last q path) (sym is) one;
        passing_matches = subst (λ o. MeetsPassing o path) (sym asks.passing) tt;
      }

counted_stops : (ends : Ends) (x : Stepped) (at : ℕ) (to : State) → IsTrue (counts ends x) → x ≡ Moved at to → ⊥
counted_stops ends x at to h is = let ill = subst (λ y. IsTrue (counts ends y)) is h in absurd cc

pub counted_ends_return : CountedEndsReturn
counted_ends_return turns frames answers parts k entry p plan ends g own refuted input given end ended is_counted =
    let found = ends_are_runs parts entry input ends end ended is_counted in
    let r = found.0 in
    let last : Stepped = next parts input (last_in r) in
    let is_last : IsTrue (counts ends last) = subst (λ x. IsTrue (counts ends x)) (sym found.2) is_counted in
    let begins = found.1.begins in
    let walks = runs_walk parts k entry input r g own given.0 begins in
    let first : IsLedTo parts entry r.first.node = inl (ap (λ (s : State). s.node) begins.start) in
    let led = led_to parts entry (first_pair entry) r.first r.moves walks.0 walks.1 first in
    let state : IsState parts (last_in r) = run_states parts k entry input r g own given.0 begins (length r.moves) (last_in r) (last_there r.first r.moves) in
    ⊎_elim
    (λ exit. ⊎_elim
    (λ (done : (value : Option ℕ) × (last ≡ Returned value)). (done.0, sym found.2 ∙ done.1))
    (λ goes. absurd (counted_stops ends last goes.0 goes.1 is_last goes.2))
    (exit_goes parts k entry input (last_in r) g own state exit refuted.plainly))
    (λ other.
    let asked = refuted.asks.each (last_in r).node led other in
    let none = none_hits_at_all turns frames answers parts entry p plan ends asked.1 refuted.stay (λ i gi. refuted.unhit asked.0 (last_in r).node asked.1 asked.2 asked.3 other i gi) input given in
    absurd (none (record { run = r; is_run = found.1; hits = hits_end parts entry p plan ends input refuted.asks r asked.1 is_last asked.3 })))
    (cases_eq (last_in r).node entry.exit)
  where
    last_there : (s : State) (ms : List Move) → slice_get (states_of s ms) (length ms) ≡ Some (last_state s ms)
    last_there s [] = refl
    last_there s (m ∷ ms) = last_there m.target ms

pub no_run_time_error : NoRunTimeError
no_run_time_error turns frames answers parts k entry p plan g own refuted input given trap ended =
    let e = counted_ends_return turns frames answers parts k entry p plan counted.Trapped g own refuted input given (Trapped trap) ended refl in
    let is = e.1 in
    absurd cc

-- where the states end they don't go on, and any end is counted
any_counted : (x : Stepped) → state_moved x ≡ None → IsTrue (counts counted.Any x)
any_counted (Moved at to) over = absurd cc
any_counted (Returned value) over = refl
any_counted (Trapped trap) over = refl
any_counted Blocked over = refl
any_counted TooDeep over = refl

pub each_run_returns : EachRunReturns
each_run_returns parts k entry bounds pairs steps p plan g own are few refuted input given =
    let e = staying_inputs_end_soon parts k entry bounds pairs steps input g own given.0 are few (refuted.stay input given) in
    let back = counted_ends_return bounds.turns bounds.frames bounds.answers parts k entry p plan counted.Any g own refuted input given e.0 e.1.ends (any_counted e.0 e.1.ends.over) in
    (back.0, subst (λ x. EndsSoon parts entry input 50000 x) back.1 e.1)
