-- What is written is read again.
use Rattle.std.specs.Prelude.{◌≡◌, ℕ, ◌<◌, ◌≤◌, ◌^◌, List, All, Some, length, map, slice_get}
use Rattle.cfa.specs.declared.parts.Function.{Function}
use Rattle.cfa.specs.declared.parts.GraphParts.{GraphParts}
use Rattle.cfa.specs.declared.state.Predicates.{Predicates}
use Rattle.cfa.specs.Graph.{IsGraph}
use Rattle.c_meaning.specs.declared.ends.Ends.{Ends}
use Rattle.c_meaning.specs.Runs.{Run, IsRun}
use Rattle.path_runner.specs.Paths.{record_of}
use Rattle.trace_file.specs.declared.trace.Trace.{Trace}
use Rattle.trace_file.specs.Reading.{IsFileOf, most_traces}
use Rattle.trace_file.specs.Written.{traces_text}

module _ (parts : GraphParts) (entry : Function) (p : Predicates) (ends : Ends) where
  -- A trace of a run: its input has a word for each parameter, and its run is the record of one that is counted. The edges
  -- are numbers of 32 bits, as the type of records has them.
  pub record RecordsRun (trace : Trace) : Type 0 where
    pub words : length trace.input.words ≡ length entry.parameters
    pub run : Run
    pub is_run : IsRun parts entry trace.input ends run
    pub recorded : trace.run ≡ record_of parts trace.input p run
    pub small : All (λ edge. edge < 2 ^ 32) trace.run.edges

-- The text of at most 10,000 such traces is a trace file of right traces, which have the same runs.
abbrev pub TextsAreRead : Type 0
TextsAreRead =
    (parts : GraphParts) (k : ℕ) (entry : Function) (p : Predicates) (ends : Ends) (traces : List Trace) →
    IsGraph parts → slice_get parts.functions k ≡ Some entry → length traces ≤ most_traces → All (RecordsRun parts entry p ends) traces →
    (again : List Trace) × IsFileOf parts entry ends p (traces_text entry.parameters traces) again
    × (map (λ (trace : Trace). trace.run) again ≡ map (λ (trace : Trace). trace.run) traces)
