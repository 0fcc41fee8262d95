-- The input of a model of a goal's formula: its run, and the input that has exactly the answers that this run reads.
use Rattle.std.proofs.Common.{◌≡◌, ℕ, zero, suc, replicate, ◌≤◌, ◌<◌, ◌^◌, Bool, true, false, cond, List, [], ◌∷◌, map, length, Some, Option, sym, ap, subst, ◌∙◌, arith, pos, All, get_or}
use Rattle.std.specs.Prelude.{slice_get}
use Rattle.std.specs.List.{AllZip, filter}
use Rattle.std.proofs.lemmas.List.{length-map}
use Rattle.std.proofs.lemmas.List.Elements.{All-map}
use Rattle.std.proofs.lemmas.Slice.Zip.{AllZip-long}
use Rattle.patterns.specs.Paths.{IsPath}
use Rattle.c_meaning.proofs.Longest.{one_longest, runs_within}
use Rattle.c_meaning.proofs.RunLaws.{one_run}
use Rattle.c_meaning.specs.Pairs.{IsLongestWithin, IsRunWithin}
use Rattle.c_meaning.specs.Runs.{IsRun, Move, Run, states_of}
use Rattle.c_meaning.specs.Starts.{start_of}
use Rattle.c_meaning.specs.declared.ends.Ends.{Ends}
use Rattle.c_meaning.specs.declared.input.Input.{Input}
use Rattle.c_values.proofs.Fitting.{IsValue-wrapped, value_parts}
use Rattle.c_values.specs.Kind.{IsKind, IsValue}
use Rattle.c_values.specs.declared.kinds.Kind.{Kind}
use Rattle.cfa.specs.Graph.{IsGraph}
use Rattle.cfa.specs.declared.parts.Function.{Function}
use Rattle.cfa.specs.declared.parts.GraphParts.{GraphParts}
use Rattle.cfa.specs.declared.state.Predicates.{Predicates}
use Rattle.cfa.specs.declared.state.State.{State}
use Rattle.circuit.specs.Wires.{lit_holds}
use Rattle.circuit.specs.declared.lit.Gate.{Gate}
use Rattle.goal_formula.proofs.InputWorlds.{input_given}
use Rattle.goal_formula.specs.Bits.{assignment, input_from, number_in, words_in}
use Rattle.goal_formula.specs.Exact.{IsExact}
use Rattle.goal_formula.specs.declared.goal.GoalFormula.{GoalFormula}
use Rattle.goals.specs.GoalForm.{GoalForm}
use Rattle.goals.specs.declared.plan.Plan.{Plan}
use Rattle.measurer_hits.specs.hits.Hits.{Hits, path_in}
use Rattle.measurer_hits.specs.hits.Inputs.{InputHitsWithin}
use Rattle.unwinder.specs.input_words.Worlds.{world_of}
use Rattle.path_runner.proofs.Records.{runs_recorded}
use Rattle.path_runner.specs.Masks.{mask_of}
use Rattle.path_runner.specs.Paths.{path_of, record_of}
use Rattle.path_runner.specs.declared.path.PathRecord.{PathRecord}
use Rattle.unwinder_reach.specs.declared.reached.bounds.Bounds.{Bounds}
use Rattle.search.specs.Nexts.{IsModel}
use Rattle.unwinder.proofs.Made.{parameter_kinds}
use Rattle.unwinder.specs.Lists.{IsInputFor, ListsRuns, Tells, after_move, entries_in, reached_in}
use Rattle.unwinder.specs.declared.unwound.Entry.{Entry}
use Rattle.suite.specs.Made.{HasRunWithin, IsMade, IsMadeFor}
use Rattle.suite.proofs.Trimming.{answers_fit, trimmed, trimmed_record, trimmed_run, values}

-- what is recorded of a run is a path
pub record_is_path : (parts : GraphParts) (x : Input) (p : Predicates) (run : Run) → IsPath (path_in (record_of parts x p run))
record_is_path parts x p run =
    let targets = length-map run.moves (λ (m : Move). m.target) in
    let edges = length-map run.moves (λ (m : Move). m.edge) in
    let nodes = length-map (states_of run.first run.moves) (λ (s : State). s.node) in
    let masks = length-map (states_of run.first run.moves) (mask_of parts p) in
    record { nodes_fit = omega (arith, targets, edges, nodes); masks_fit = omega (arith, targets, edges, masks) }

-- a value has 64 bits
value_small : (kind : Kind) (v : ℕ) → IsValue kind v → v < 2 ^ 64
value_small kind v is = (value_parts kind v is).pattern

-- a filter keeps no more than there is
filter_few : {X : Type 0} (test : X → Bool) (xs : List X) → length (filter test xs) ≤ length xs
filter_few test [] = omega arith
filter_few {X} test (x ∷ xs) = by (test x) (filter_few test xs)
  where
    by : (b : Bool) → length (filter test xs) ≤ length xs → length (cond b (x ∷ filter test xs) (filter test xs)) ≤ suc (length xs)
    by true few = omega (arith, few)
    by false few = omega (arith, few)

-- a run within the bounds has fewer moves than an unwinding has entries
pub few_moves : (parts : GraphParts) (p : Predicates) (f : Function) (bounds : Bounds) (ends : Ends) (gates : List Gate) (entries : List Entry) (x : Input) (r : Run)
    → ListsRuns parts p f bounds ends gates entries → IsInputFor f x → IsRun parts f x ends r → IsRunWithin bounds.turns bounds.frames bounds.answers parts f r → length r.moves ≤ length entries
few_moves parts p f bounds ends gates entries x r lists given is_run within =
    let it = lists x given in
    let other : IsLongestWithin bounds.turns bounds.frames bounds.answers parts f x r = (runs_within bounds.turns bounds.frames bounds.answers parts f x ends r is_run).0 within in
    let same : r ≡ it.0 = one_longest bounds.turns bounds.frames bounds.answers parts f x r it.0 other it.1 in
    let w = world_of f.parameters bounds.answers x in
    let held = entries_in gates entries w in
    let long : length (reached_in it.0) ≡ length held = AllZip-long (Tells parts p ends gates w x) held (reached_in it.0) it.2 in
    let states : length (map after_move it.0.moves) ≡ length it.0.moves = length-map it.0.moves after_move in
    let few = filter_few (λ (e : Entry). lit_holds gates e.guard w) entries in
    let moves : length r.moves ≡ length it.0.moves = ap (λ (q : Run). length q.moves) same in
    omega (arith, long, states, few, moves)

-- the path up to as many edges as there are entries is the whole run
pub replayed : (parts : GraphParts) (p : Predicates) (f : Function) (bounds : Bounds) (ends : Ends) (gates : List Gate) (entries : List Entry) (x : Input) (run : Run) (path : PathRecord)
    → ListsRuns parts p f bounds ends gates entries → HasRunWithin parts f bounds ends x → IsRun parts f x ends run → path ≡ path_of parts x p (length entries) (start_of parts f x.words) → path ≡ record_of parts x p run
replayed parts p f bounds ends gates entries x run path lists has is_run is =
    let same : has.run ≡ run = one_run parts f x ends ends has.run run has.is_run is_run in
    let few = few_moves parts p f bounds ends gates entries x has.run lists has.given has.is_run has.within in
    is ∙ (runs_recorded parts f x p (length entries) ends has.run has.is_run few).0 ∙ ap (record_of parts x p) same

-- an input that was made is one of the function, and has its run
pub has_made : (parts : GraphParts) (p : Predicates) (f : Function) (bounds : Bounds) (ends : Ends) (x : Input) (run : Run) → f.arrays ≡ [] → IsMade parts f p bounds ends x run → HasRunWithin parts f bounds ends x
has_made parts p f bounds ends x run arrays made = record {
  given = record {
    start = (AllZip-long IsValue f.parameters x.words made.words_fit, arrays);
    answers = subst (All (λ n. n < 2 ^ 64)) made.answers (All-map (λ n. n < 2 ^ 64) (λ (a : Kind × ℕ). a.1) (record_of parts x p run).taken (λ k d lt. value_small ((get_or (record_of parts x p run).taken k d).0) ((get_or (record_of parts x p run).taken k d).1) (made.answers_fit k d lt)));
  };
  run = run;
  is_run = made.is_run;
  within = made.within;
}

-- each row has 64 places
pub rows_long : (count : ℕ) (rows : List (List (Option ℕ))) → map length rows ≡ replicate count 64 → All (λ (row : List (Option ℕ)). length row ≡ 64) rows
rows_long count [] e k d lt = absurd (omega arith)
rows_long zero (row ∷ rows) e k d lt = absurd cc
rows_long (suc count) (row ∷ rows) e zero d lt = cc
rows_long (suc count) (row ∷ rows) e (suc k) d lt = let rest : map length rows ≡ replicate count 64 = cc in rows_long count rows rest k d (omega arith)

-- each word is a value of its parameter's kind
words_fit : (value : ℕ → Bool) (kinds : List Kind) (rows : List (List (Option ℕ))) → map length rows ≡ map (λ (kind : Kind). kind.width) kinds → All IsKind kinds → AllZip IsValue kinds (words_in value kinds rows)
words_fit value [] rows e h = tt
words_fit value (kind ∷ kinds) [] e h = absurd cc
words_fit value (kind ∷ kinds) (row ∷ rows) e h =
    let rest : map length rows ≡ map (λ (k : Kind). k.width) kinds = cc in
    (IsValue-wrapped kind (pos (number_in value row)) (h 0 kind (omega arith)), words_fit value kinds rows rest (λ k d lt. h (suc k) d (omega arith)))

module _ (parts : GraphParts) (p : Predicates) (f : Function) (entry : ℕ) (bounds : Bounds) (ends : Ends) (plan : Plan) (goal : GoalForm) (g : GoalFormula) (model : List Bool)
    (graph : IsGraph parts) (own : slice_get parts.functions entry ≡ Some f) (arrays : f.arrays ≡ [])
    (exact : IsExact parts p f bounds ends plan goal g) (is_model : IsModel g.formula model) where
  abbrev value : ℕ → Bool
  value = assignment model

  abbrev pub found : Input
  found = input_from value f.parameters g

  pub given : IsInputFor f found
  given = input_given value f bounds.answers g arrays exact.shape

  pub hits : InputHitsWithin parts f p plan ends bounds.turns bounds.frames bounds.answers goal found
  hits = exact.sound value is_model.1

  kinds : All IsKind f.parameters
  kinds = parameter_kinds parts entry f graph own

  pub has_run : HasRunWithin parts f bounds ends found
  has_run = record { given = given; run = hits.run; is_run = hits.is_run; within = hits.within }

  -- the input with the answers alone that its run reads
  pub made_for : (path : PathRecord) → path ≡ record_of parts found p hits.run → IsMadeFor parts f p plan bounds ends goal (record { words = found.words; answers = values path.taken })
  made_for path recorded =
      let same = trimmed_record parts graph f p ends found hits.run hits.is_run in
      let own_record = record_of parts found p hits.run in
      let made : IsMadeFor parts f p plan bounds ends goal (trimmed parts graph f p ends found hits.run hits.is_run) = record {
        run = hits.run;
        made = record {
          is_run = trimmed_run parts graph f p ends found hits.run hits.is_run;
          within = hits.within;
          answers = ap (λ (q : PathRecord). values q.taken) same;
          answers_fit = subst (λ (q : PathRecord). All (λ (a : Kind × ℕ). IsValue a.0 a.1) q.taken) (sym same) (answers_fit parts graph found hits.run.moves);
          words_fit = words_fit value f.parameters g.words exact.shape.words kinds;
        };
        hits = subst (Hits plan ends goal) (sym same) hits.hits;
      } in
      subst (λ (q : PathRecord). IsMadeFor parts f p plan bounds ends goal (record { words = found.words; answers = values q.taken })) (sym recorded) made
