-- Runs by their edges.
use Rattle.std.proofs.Common.{◌≡◌, ℕ, ◌≤◌, List, length, sym, ap, subst, ◌∙◌, arith}
use Rattle.std.proofs.lemmas.List.{length-map}
use Rattle.std.specs.Prelude.{IsTrue}
use Rattle.c_meaning.proofs.RunLaws.{one_run}
use Rattle.c_meaning.specs.Runs.{Move, edges_in}
use Rattle.c_meaning.specs.Starts.{start_of}
use Rattle.c_meaning.specs.declared.ends.Ends.{Ends}
use Rattle.c_meaning.specs.declared.input.Input.{Input}
use Rattle.cfa.specs.declared.parts.Function.{Function}
use Rattle.cfa.specs.declared.parts.GraphParts.{GraphParts}
use Rattle.cfa.specs.declared.state.Predicates.{Predicates}
use Rattle.path_runner.proofs.Records.{paths_counted, runs_recorded}
use Rattle.path_runner.specs.Counted.{counts_end}
use Rattle.path_runner.specs.Paths.{path_of, record_of}
use Rattle.path_runner.specs.declared.path.PathRecord.{PathRecord}
use Rattle.measurer_hits.specs.run_laws.Laws.{OneTrace, PathsAlong, RecordsAlong}
use Rattle.measurer_hits.specs.run_laws.Traces.{RunsAlong}

module _ (parts : GraphParts) (entry : Function) (input : Input) (p : Predicates) (ends : Ends) (edges : List ℕ) (h : RunsAlong parts entry input ends edges) where
  few : length h.run.moves ≤ length edges
  few = let long = length-map h.run.moves (λ (m : Move). m.edge) in let along = ap length h.along in omega (arith, long, along)

  recorded : path_of parts input p (length edges) (start_of parts entry input.words) ≡ record_of parts input p h.run
  recorded = (runs_recorded parts entry input p (length edges) ends h.run h.is_run few).0

  counted_end : IsTrue (counts_end ends (record_of parts input p h.run).end)
  counted_end = (runs_recorded parts entry input p (length edges) ends h.run h.is_run few).1

pub records_along : RecordsAlong
records_along parts entry input p ends edges h = recorded parts entry input p ends edges h

pub paths_along : PathsAlong
paths_along parts entry input p ends edges = (
  λ h.
      let is = recorded parts entry input p ends edges h in (
        ap (λ (path : PathRecord). path.edges) is ∙ h.along,
        subst (λ (path : PathRecord). IsTrue (counts_end ends path.end)) (sym is) (counted_end parts entry input p ends edges h),
      ),
  λ h.
      let found = paths_counted parts entry input p (length edges) ends h.1 in
      record { run = found.0; is_run = found.1; along = sym (ap (λ (path : PathRecord). path.edges) found.2) ∙ h.0 },
)

pub one_trace : OneTrace
one_trace parts entry input ends other edges more h g =
    sym h.along ∙ ap edges_in (one_run parts entry input ends other h.run g.run h.is_run g.is_run) ∙ g.along
