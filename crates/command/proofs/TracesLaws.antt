-- Laws of the traces of inputs.
use Rattle.std.proofs.Common.{◌≡◌, ℕ, ◌+◌, ◌<◌, ◌≤◌, All, List, [], ◌∷◌, ◌++◌, length, map, Some, slice_get, refl, sym, ap, ◌∙◌, arith}
use Rattle.std.specs.Prelude.{IsTrue, if◌then◌else◌}
use Rattle.std.specs.List.{filter, list_all}
use Rattle.std.proofs.lemmas.Bool.{le-ltb, lt-ltb}
use Rattle.std.proofs.lemmas.List.{map-append}
use Rattle.std.proofs.lemmas.List.Elements.{All-filter, All-map, filter-append}
use Rattle.std.proofs.lemmas.List.Sums.{sum_by-append, sum_by-cons}
use Rattle.fq_core.specs.declared.refusal.Place.TheVariants as place
use Rattle.c_values.proofs.Fitting.{and_left}
use Rattle.c_values.specs.Kind.{is_kind}
use Rattle.cfa.specs.Graph.{IsGraph, result_kind_fits}
use Rattle.cfa.specs.declared.parts.Function.{Function}
use Rattle.cfa.specs.declared.parts.GraphParts.{GraphParts}
use Rattle.c_meaning.specs.Starts.{CanStart}
use Rattle.c_meaning.specs.declared.ends.Ends.{Ends}
use Rattle.c_meaning.specs.declared.input.Input.{Input}
use Rattle.path_runner.specs.declared.path.PathRecord.{PathRecord}
use Rattle.trace_file.specs.declared.trace.Trace.{Trace}
use Rattle.trace_file.specs.Written.{HasWords, traces_text}
use Rattle.command.specs.RunList.{edges_in, most_listed}
use Rattle.command.specs.Refusal.{said_by}
use Rattle.command.specs.Runs.{EntryFunction, no_predicates, run_of, runs_of}
use Rattle.command.specs.Said.{answered}
use Rattle.command.specs.Traces.{is_counted, trace_of, traced, traces_of}
use Rattle.command.proofs.RunListLaws.{said_limit}

module _ (graph : GraphParts) (entry : EntryFunction) (ends : Ends) (steps : ℕ) where
  abbrev f : Function
  f = entry.function

  abbrev runs_at : List Input → List PathRecord
  runs_at given = runs_of graph f no_predicates steps given

  edges_with : (xs ys : List Input) → edges_in (runs_at (xs ++ ys)) ≡ edges_in (runs_at xs) + edges_in (runs_at ys)
  edges_with xs ys =
      rw (map-append (run_of graph f no_predicates steps) xs ys) (sum_by-append (λ (run : PathRecord). length run.edges) (runs_at xs) (runs_at ys))

  -- the edges with those of the run of one more input
  pub edges_after : (xs : List Input) (x : Input) (run : PathRecord) → run ≡ run_of graph f no_predicates steps x
      → edges_in (runs_at (xs ++ x ∷ [])) ≡ edges_in (runs_at xs) + length run.edges
  edges_after xs x run is =
      let joined = edges_with xs (x ∷ []) in
      let last = sum_by-cons (λ (r : PathRecord). length r.edges) (run_of graph f no_predicates steps x) [] in
      let same = ap (λ (r : PathRecord). length r.edges) is in
      omega (arith, joined, last, same)

  -- too many edges are in the runs of the first inputs
  pub too_many : (xs ys : List Input) (names : List (List ℕ)) → most_listed < edges_in (runs_at xs)
      → traced graph entry ends steps (xs ++ ys) ≡ said_by names (record { code = 54; place = place.Limit most_listed })
  too_many xs ys names many =
      let joined = edges_with xs ys in
      rw (lt-ltb most_listed (edges_in (runs_at (xs ++ ys))) (omega (arith, many, joined))) (sym (said_limit names))

  -- all counted runs are written
  pub traced_all : (inputs : List Input) → edges_in (runs_at inputs) ≤ most_listed
      → traced graph entry ends steps inputs ≡ answered (traces_text f.parameters (traces_of graph f ends steps inputs))
  traced_all inputs few = rw (le-ltb most_listed (edges_in (runs_at inputs)) few) refl

  -- the traces with that of one more input, where its run is counted
  pub traces_after : (xs : List Input) (x : Input) (trace : Trace) → trace ≡ trace_of graph f steps x
      → traces_of graph f ends steps (xs ++ x ∷ []) ≡ traces_of graph f ends steps xs ++ (if is_counted ends trace then trace ∷ [] else [])
  traces_after xs x trace is =
      ap (filter (is_counted ends)) (map-append (trace_of graph f steps) xs (x ∷ []))
      ∙ filter-append (is_counted ends) (map (trace_of graph f steps) xs) (trace_of graph f steps x ∷ [])
      ∙ ap (λ (t : Trace). traces_of graph f ends steps xs ++ (if is_counted ends t then t ∷ [] else [])) (sym is)

  words_of : (inputs : List Input) → All (λ (input : Input). CanStart f input.words) inputs → All (HasWords f.parameters) (map (trace_of graph f steps) inputs)
  words_of inputs start = All-map (HasWords f.parameters) (trace_of graph f steps) inputs (λ k d within. (start k d within).0)

  -- each trace has a word for each parameter
  pub have_words : (inputs : List Input) → All (λ (input : Input). CanStart f input.words) inputs → All (HasWords f.parameters) (traces_of graph f ends steps inputs)
  have_words inputs start = All-filter (is_counted ends) (HasWords f.parameters) (map (trace_of graph f steps) inputs) (words_of inputs start)

-- the parameters of a function of a graph are of kinds
pub own_kinds : (graph : GraphParts) → IsGraph graph → (k : ℕ) (f : Function) → slice_get graph.functions k ≡ Some f → IsTrue (list_all is_kind f.parameters)
own_kinds graph g k f own = and_left (list_all is_kind f.parameters) (result_kind_fits f.result) (g.rest.functions k f own).signature

module _ (graph : GraphParts) (entry : EntryFunction) (ends : Ends) (steps : ℕ) (xs : List Input) (x : Input) (run : PathRecord) where
  -- the traces with one more, where its run is counted
  pub trace_kept : (traces new : List Trace) → (let trace : Trace = record { input = x; run = run } in new ≡ traces ++ (if is_counted ends trace then trace ∷ [] else []))
      → traces ≡ traces_of graph entry.function ends steps xs → run ≡ run_of graph entry.function no_predicates steps x
      → new ≡ traces_of graph entry.function ends steps (xs ++ x ∷ [])
  trace_kept traces new kept so_far is =
      let trace : Trace = record { input = x; run = run } in
      let made : trace ≡ trace_of graph entry.function steps x = ap (λ (r : PathRecord). record { input = x; run = r }) is in
      kept ∙ ap (λ (list : List Trace). list ++ (if is_counted ends trace then trace ∷ [] else [])) so_far
      ∙ sym (traces_after graph entry ends steps xs x trace made)
