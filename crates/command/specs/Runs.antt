-- The runs of inputs from an entry.
use Rattle.std.specs.Prelude.{ℕ, ◌==◌, List, [], length, map, Option, None, Some, option_and_then, slice_get, if◌then◌else◌}
use Rattle.cfa.specs.declared.parts.Function.{Function}
use Rattle.cfa.specs.declared.parts.GraphParts.{GraphParts}
use Rattle.cfa.specs.declared.state.Predicates.{Predicates}
use Rattle.cfa.specs.Names.{first_named}
use Rattle.c_meaning.specs.declared.input.Input.{Input}
use Rattle.c_meaning.specs.Starts.{start_of}
use Rattle.path_runner.specs.declared.path.PathRecord.{PathRecord}
use Rattle.path_runner.specs.declared.path.RunEnd.{RunEnd}
use Rattle.path_runner.specs.Paths.{path_of}

-- a function of the automaton, with its number
pub record EntryFunction : Type 0 where
  pub number : ℕ
  pub function : Function

-- a run can begin at a function that has no array parameters
abbrev pub if_startable : ℕ → Function → Option EntryFunction
if_startable number f = if length f.arrays == 0 then Some (record { number = number; function = f }) else None

abbrev pub startable_at : GraphParts → ℕ → Option EntryFunction
startable_at graph number = option_and_then (if_startable number) (slice_get graph.functions number)

-- the defined function of this name, where a run can begin at it
abbrev pub entry_of : GraphParts → List ℕ → Option EntryFunction
entry_of graph name = option_and_then (startable_at graph) (first_named graph.functions name)

abbrev pub no_predicates : Predicates
no_predicates = record { texts = []; meanings = [] }

-- the path of an input's run, up to its end or so many edges
unfoldable pub run_of : GraphParts → Function → Predicates → ℕ → Input → PathRecord
run_of graph entry p steps input = path_of graph input p steps (start_of graph entry input.words)

abbrev pub runs_of : GraphParts → Function → Predicates → ℕ → List Input → List PathRecord
runs_of graph entry p steps inputs = map (run_of graph entry p steps) inputs

-- how each of them ends
abbrev pub ends_of : List PathRecord → List RunEnd
ends_of runs = map (λ (run : PathRecord). run.end) runs
