-- A goal of edges is hit exactly where what these edges tell happens by the trees.
use Rattle.std.proofs.Common.{◌≡◌, ◌≢◌, ℕ, suc, ◌+◌, ◌-◌, ◌<◌, Bool, true, false, List, length, Option, Some, None, refl, sym, ap, subst, ◌∙◌, ⊎_elim, inr, arith}
use Rattle.std.specs.Prelude.{IsTrue, slice_get, slice_index}
use Rattle.std.specs.List.{list_any}
use Rattle.std.specs.Option.{option_map_or}
use Rattle.std.proofs.lemmas.Option.{slice_get_within}
use Rattle.cfa.specs.declared.parts.Edge.{Edge}
use Rattle.cfa.specs.declared.parts.Function.{Function}
use Rattle.cfa.specs.declared.parts.GraphParts.{GraphParts}
use Rattle.cfa.specs.declared.state.Predicates.{Predicates}
use Rattle.cfa.specs.declared.state.State.{State}
use Rattle.c_meaning.proofs.RunLaws.{counted_over}
use Rattle.c_meaning.specs.declared.ends.Ends.{Ends}
use Rattle.c_meaning.specs.declared.input.Input.{Input}
use Rattle.c_meaning.specs.declared.stepped.Stepped.{Stepped}
use Rattle.c_meaning.specs.declared.stepped.Stepped.TheVariants.{Moved, Returned, Trapped, Blocked, TooDeep}
use Rattle.c_meaning.specs.Runs.{IsRun, Run, counts, last_in, state_at, state_from, state_moved, states_in}
use Rattle.c_meaning.specs.Starts.{CanStart, start_of}
use Rattle.c_meaning.specs.Steps.{next}
use Rattle.c_typed_trees.specs.declared.unit.Typed.{Typed}
use Rattle.c_typed_trees.specs.declared.unit.TypedFunction.{TypedFunction}
use Rattle.c_lower_rules.specs.graph_of.GraphOf.{graph_of, function_of}
use Rattle.tree_events.specs.declared.edge_events.event.Event.{Event}
use Rattle.tree_meaning.specs.declared.ends.TreeEnd.{TreeEnd}
use Rattle.tree_meaning.specs.declared.ends.TreeEnd.TheVariants as tree
use Rattle.tree_events.specs.Runs.{told_end}
use Rattle.tree_meaning_laws.specs.tree_laws.Laws.{IsMade, IsNext}
use Rattle.tree_events_laws.specs.event_laws.Happens.{Takes}
use Rattle.tree_events_laws.specs.event_laws.Laws.{Tells}
use Rattle.tree_events_laws.proofs.event_laws.Happens.{happens_where_taken}
use Rattle.tree_events_laws.proofs.event_laws.Law.{ended_edges_tell, trees_are_told}
use Rattle.path_runner.specs.Counted.{counts_end}
use Rattle.path_runner.specs.Paths.{end_at, record_of}
use Rattle.patterns.proofs.Forms.{form_letter}
use Rattle.patterns.specs.Letters.{form}
use Rattle.patterns.specs.Match.{Form, letter}
use Rattle.patterns.specs.Segments.{HasSegment}
use Rattle.patterns.specs.declared.letter.Letter.{Letter}
use Rattle.patterns.specs.declared.letter.Letter.TheVariants.{Edges}
use Rattle.filters.specs.Parts.{is_among}
use Rattle.goals.specs.Forms.{Pattern}
use Rattle.goals.specs.GoalForm.{GoalForm}
use Rattle.goals.specs.declared.plan.Plan.{Plan}
use Rattle.measurer_hits.specs.hits.Hits.{Hits, MeetsPassing, path_in}
use Rattle.measurer_hits.specs.hits.Inputs.{InputHits}
use Rattle.measurer_hits.specs.run_laws.Ends.{EndsFrom}
use Rattle.measurer_hits.proofs.run_laws.Ends.{ends_are_runs, one_end}
use Rattle.measurer_laws.specs.covered_laws.Covered.{AreTelling, AsksForEdges, CoveredWhereHappens, Happens, counts_tree, tells_one}
use Rattle.measurer_laws.proofs.covered_laws.Moves.{edge_at, edges_length, edges_of, last_there, states_length, taken_at}

-- ---- ends

counts_same : (ends : Ends) (e : TreeEnd) (x : Stepped) → IsNext e x → counts ends x ≡ counts_tree ends e
counts_same ends (tree.Returned value) x is = ap (counts ends) is
counts_same ends (tree.Trapped trap) x is = ap (counts ends) is
counts_same ends tree.Blocked x is = ap (counts ends) is
counts_same ends tree.TooDeep x is = ap (counts ends) is
counts_same ends tree.OutOfTurns x is = absurd is

counts_recorded : (ends : Ends) (x : Stepped) → IsTrue (counts ends x) → IsTrue (counts_end ends (end_at x))
counts_recorded ends (Moved at to) h = absurd cc
counts_recorded ends (Returned value) h = h
counts_recorded ends (Trapped trap) h = h
counts_recorded ends Blocked h = h
counts_recorded ends TooDeep h = h

next_over : (e : TreeEnd) (x : Stepped) → IsNext e x → state_moved x ≡ None
next_over (tree.Returned value) x is = ap state_moved is
next_over (tree.Trapped trap) x is = ap state_moved is
next_over tree.Blocked x is = ap state_moved is
next_over tree.TooDeep x is = ap state_moved is
next_over tree.OutOfTurns x is = absurd is

not_out : (ends : Ends) (e : TreeEnd) → IsTrue (counts_tree ends e) → e ≢ tree.OutOfTurns
not_out ends e h same = let ill : IsTrue (counts_tree ends tree.OutOfTurns) = subst (λ x. IsTrue (counts_tree ends x)) same h in absurd cc

-- ---- an edge of a list is taken

-- each of these edges is there, and tells an event that passes a test
abbrev pub AllTell : GraphParts → List ℕ → (Event → Bool) → Type 0
AllTell parts edges test = (k : ℕ) → is_among edges k ≡ true → (e : Edge) × (slice_get parts.edges k ≡ Some e) × IsTrue (tells_one test e)

module _ (parts : GraphParts) (edges : List ℕ) (test : Event → Bool) (telling : AreTelling parts edges test) where
  pub told_by : AllTell parts edges test
  told_by k h = by (slice_get parts.edges k) refl (sym (telling k) ∙ h)
    where
      by : (o : Option Edge) → slice_get parts.edges k ≡ o → option_map_or (tells_one test) o false ≡ true → (e : Edge) × (slice_get parts.edges k ≡ Some e) × IsTrue (tells_one test e)
      by None is t = absurd cc
      by (Some e) is t = (e, is, t)

  pub asked_by : (k : ℕ) (e : Edge) → slice_get parts.edges k ≡ Some e → IsTrue (tells_one test e) → is_among edges k ≡ true
  asked_by k e there t = telling k ∙ ap (λ o. option_map_or (tells_one test) o false) there ∙ t

module _ (parts : GraphParts) (entry : Function) (p : Predicates) (plan : Plan) (ends : Ends) (goal : GoalForm) (input : Input) (edges : List ℕ) (asks : AsksForEdges plan goal edges) where
  pattern_is : form goal.pattern ≡ letter (Edges edges)
  pattern_is = ap (λ (q : Pattern). form q) asks.pattern ∙ form_letter (Edges edges)

  -- a run that hits the goal takes one
  takes_one : (r : Run) → Hits plan ends goal (record_of parts input p r) → (i : ℕ) × (i < length r.moves) × (is_among edges (slice_index (edges_of r.moves) i) ≡ true)
  takes_one r h =
      let path = path_in (record_of parts input p r) in
      let seg : HasSegment plan.first plan.last (letter (Edges edges)) path = subst (λ (q : Form Letter). HasSegment plan.first plan.last q path) pattern_is h.goal_matches in
      let within = seg.within in
      let long = edges_length r.moves in
      ⊎_elim
      (λ at. let no = at.1 in absurd cc)
      (λ at.
      let up = at.0 in
      let before : seg.to - 1 ≡ seg.from = omega (arith, up) in
      (seg.from, omega (arith, up, within, long), ap (λ i. is_among edges (slice_index (edges_of r.moves) i)) (sym before) ∙ at.1))
      seg.matches

  -- one that takes one hits it
  hits_by : (r : Run) (i : ℕ) → IsTrue (counts ends (next parts input (last_in r))) → i < length r.moves → is_among edges (slice_index (edges_of r.moves) i) ≡ true → Hits plan ends goal (record_of parts input p r)
  hits_by r i counted less among =
      let path = path_in (record_of parts input p r) in
      let long = edges_length r.moves in
      let before : suc i - 1 ≡ i = omega arith in
      let one : HasSegment plan.first plan.last (letter (Edges edges)) path = record {
        from = i;
        to = suc i;
        forward = omega arith;
        within = omega (arith, less, long);
        at_first = λ first. let no = asks.first in absurd cc;
        at_last = λ last. let no = asks.last in absurd cc;
        matches = inr (refl, ap (λ j. is_among edges (slice_index (edges_of r.moves) j)) before ∙ among);
      } in
      record {
        counted = counts_recorded ends (next parts input (last_in r)) counted;
        goal_matches = subst (λ (q : Form Letter). HasSegment plan.first plan.last q path) (sym pattern_is) one;
        passing_matches = subst (λ o. MeetsPassing o path) (sym asks.passing) tt;
      }

-- ---- the law

-- a run from an entry whose end is counted, and one of its edges that tells an event which passes a test
pub record TakesOne (parts : GraphParts) (entry : Function) (input : Input) (ends : Ends) (test : Event → Bool) : Type 0 where
  pub run : Run
  pub is_run : IsRun parts entry input ends run
  pub number : ℕ
  pub less : number < length run.moves
  pub edge : Edge
  pub there : slice_get parts.edges (slice_index (edges_of run.moves) number) ≡ Some edge
  pub tells : IsTrue (tells_one test edge)

module _ (t : Typed) (files : List (List ℕ)) (entry : ℕ) (f : TypedFunction) (input : Input) (ends : Ends) (test : Event → Bool)
    (made : IsMade t (length files)) (there : slice_get t.functions entry ≡ Some f) (starts : CanStart (function_of entry f) input.words) where
  abbrev parts : GraphParts
  parts = graph_of t files

  abbrev first : State
  first = start_of parts (function_of entry f) input.words

  -- the last state of a run that is counted
  path_to : (r : Run) → IsRun parts (function_of entry f) input ends r → state_at parts (function_of entry f) input (length r.moves) ≡ Some (last_in r)
  path_to r is = sym (is.whole (length r.moves)) ∙ last_there r.first r.moves

  -- how it ends
  end_of : (r : Run) → IsRun parts (function_of entry f) input ends r → EndsFrom parts input first (next parts input (last_in r))
  end_of r is = record {
    number = length r.moves;
    last = last_in r;
    reached = path_to r is;
    comes = refl;
    over = counted_over ends (next parts input (last_in r)) is.counted;
  }

  module _ (turns : ℕ) where
    abbrev by_trees : TreeEnd
    by_trees = told_end t entry input turns

    -- where the turns are enough
    told_to : Tells t files entry f input turns
    told_to = trees_are_told t files entry f input turns made there starts

    over_to : by_trees ≢ tree.OutOfTurns → state_moved (next parts input told_to.to) ≡ None
    over_to enough = next_over by_trees (next parts input told_to.to) (told_to.last enough)

    end_to : by_trees ≢ tree.OutOfTurns → EndsFrom parts input first (next parts input told_to.to)
    end_to enough = record { number = told_to.moves; last = told_to.to; reached = told_to.path; comes = refl; over = over_to enough }

    -- then the trees' end is counted as the run's is
    counted_if : (r : Run) → IsRun parts (function_of entry f) input ends r → by_trees ≢ tree.OutOfTurns → IsTrue (counts_tree ends by_trees)
    counted_if r is enough =
        let x = next parts input told_to.to in
        let same = one_end parts input first x (next parts input (last_in r)) (end_to enough) (end_of r is) in
        sym (counts_same ends by_trees x (told_to.last enough)) ∙ ap (counts ends) same ∙ is.counted

    -- more turns than a run has edges are enough
    counted_so : (r : Run) → IsRun parts (function_of entry f) input ends r → length r.moves < turns → IsTrue (counts_tree ends by_trees)
    counted_so r is more = by by_trees refl
      where
        by : (e : TreeEnd) → by_trees ≡ e → IsTrue (counts_tree ends by_trees)
        by (tree.Returned value) so = counted_if r is (λ out. let no = sym so ∙ out in absurd cc)
        by (tree.Trapped trap) so = counted_if r is (λ out. let no = sym so ∙ out in absurd cc)
        by tree.Blocked so = counted_if r is (λ out. let no = sym so ∙ out in absurd cc)
        by tree.TooDeep so = counted_if r is (λ out. let no = sym so ∙ out in absurd cc)
        by tree.OutOfTurns so =
            let enough = told_to.enough so in
            let within = slice_get_within (states_in r) told_to.moves told_to.to (is.whole told_to.moves ∙ told_to.path) in
            let long = states_length r.first r.moves in
            absurd (omega (arith, more, enough, within, long))

  -- where it takes an edge that tells an event, that happens
  pub so_happens : TakesOne parts (function_of entry f) input ends test → Happens t entry input ends test
  so_happens h =
      let r = h.run in
      let is = h.is_run in
      let n = length r.moves in
      let move = edge_at parts input r.first r.moves is.begins.moves h.number h.less in
      let takes : Takes parts input first test n = record {
        number = h.number;
        less = h.less;
        from = move.0;
        at = subst (λ s. state_from parts input s h.number ≡ Some move.0) is.begins.start move.2;
        edge = slice_index (edges_of r.moves) h.number;
        to = move.1;
        goes = move.3;
        taken = h.edge;
        there = h.there;
        tells = h.tells;
      } in
      let over = counted_over ends (next parts input (last_in r)) is.counted in
      record {
        turns = n + 1 + 0;
        counted = counted_so (n + 1 + 0) r is (omega arith);
        event = (happens_where_taken t files entry f input n (last_in r) 0 test made there starts (path_to r is) over).1 takes;
      }

  -- and where one happens, it takes such an edge
  pub so_taken : Happens t entry input ends test → TakesOne parts (function_of entry f) input ends test
  so_taken h =
      let enough = not_out ends (by_trees h.turns) h.counted in
      let to = told_to h.turns in
      let x = next parts input to.to in
      let over = over_to h.turns enough in
      let counted : IsTrue (counts ends x) = counts_same ends (by_trees h.turns) x (to.last enough) ∙ h.counted in
      let found = ends_are_runs parts (function_of entry f) input ends x (end_to h.turns enough) counted in
      let r = found.0 in
      let is = found.1 in
      let all = ended_edges_tell t files entry f input to.moves to.to 0 made there starts to.path over in
      let event = subst (λ (es : List Event). IsTrue (list_any test es)) (sym to.tell ∙ sym all) h.event in
      let takes = (happens_where_taken t files entry f input to.moves to.to 0 test made there starts to.path over).0 event in
      let at = subst (λ s. state_from parts input s takes.number ≡ Some takes.from) (sym is.begins.start) takes.at in
      let got = taken_at parts input r.first r.moves is.begins.moves (counted_over ends (next parts input (last_in r)) is.counted) takes.number takes.edge takes.from takes.to at takes.goes in
      record { run = r; is_run = is; number = takes.number; less = got.0; edge = takes.taken; there = ap (slice_get parts.edges) got.1 ∙ takes.there; tells = takes.tells }

module _ (t : Typed) (files : List (List ℕ)) (entry : ℕ) (f : TypedFunction) (input : Input) (p : Predicates) (plan : Plan) (ends : Ends) (goal : GoalForm) (edges : List ℕ) (test : Event → Bool)
    (made : IsMade t (length files)) (there : slice_get t.functions entry ≡ Some f) (starts : CanStart (function_of entry f) input.words) (asks : AsksForEdges plan goal edges) where
  -- where a goal is hit whose edges all tell such an event, one happens
  pub hit_happens : AllTell (graph_of t files) edges test → InputHits (graph_of t files) (function_of entry f) p plan ends goal input → Happens t entry input ends test
  hit_happens all h =
      let got = takes_one (graph_of t files) (function_of entry f) p plan ends goal input edges asks h.run h.hits in
      let e = all (slice_index (edges_of h.run.moves) got.0) got.2 in
      so_happens t files entry f input ends test made there starts (record { run = h.run; is_run = h.is_run; number = got.0; less = got.1; edge = e.0; there = e.1; tells = e.2 })

  -- where the goal asks for the edge that was taken, it is hit
  pub taken_hits : (h : TakesOne (graph_of t files) (function_of entry f) input ends test) → is_among edges (slice_index (edges_of h.run.moves) h.number) ≡ true → InputHits (graph_of t files) (function_of entry f) p plan ends goal input
  taken_hits h among =
      record { run = h.run; is_run = h.is_run; hits = hits_by (graph_of t files) (function_of entry f) p plan ends goal input edges asks h.run h.number h.is_run.counted h.less among }

pub covered_where_happens : CoveredWhereHappens
covered_where_happens t files entry f input p plan ends goal edges test made there starts asks telling = (
  hit_happens t files entry f input p plan ends goal edges test made there starts asks (told_by (graph_of t files) edges test telling),
  λ h.
      let one = so_taken t files entry f input ends test made there starts h in
      taken_hits t files entry f input p plan ends goal edges test made there starts asks one
      (asked_by (graph_of t files) edges test telling (slice_index (edges_of one.run.moves) one.number) one.edge one.there one.tells),
)
