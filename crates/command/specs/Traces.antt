-- The traces of inputs.
use Rattle.std.specs.Prelude.{◌≡◌, ℕ, List, [], filter, map, nat_lt, Bool, if◌then◌else◌}
use Rattle.fq_core.specs.declared.refusal.Place.TheVariants as place
use Rattle.cfa.specs.declared.parts.Function.{Function}
use Rattle.cfa.specs.declared.parts.GraphParts.{GraphParts}
use Rattle.c_meaning.specs.declared.ends.Ends.{Ends}
use Rattle.c_meaning.specs.declared.input.Input.{Input}
use Rattle.path_runner.specs.Counted.{counts_end}
use Rattle.trace_file.specs.declared.trace.Trace.{Trace}
use Rattle.trace_file.specs.Written.{traces_text}
use Rattle.command.specs.RunList.{edges_in, most_listed}
use Rattle.command.specs.Refusal.{said_by}
use Rattle.command.specs.Runs.{EntryFunction, no_predicates, run_of, runs_of}
use Rattle.command.specs.Said.{Said, answered}

-- an input with its run, cut after so many edges
abbrev pub trace_of : GraphParts → Function → ℕ → Input → Trace
trace_of graph entry steps input = record { input = input; run = run_of graph entry no_predicates steps input }

abbrev pub is_counted : Ends → Trace → Bool
is_counted ends trace = counts_end ends trace.run.end

-- the traces of the inputs whose runs are counted; one that was cut never is
abbrev pub traces_of : GraphParts → Function → Ends → ℕ → List Input → List Trace
traces_of graph entry ends steps inputs = filter (is_counted ends) (map (trace_of graph entry steps) inputs)

-- the file of the traces of these inputs, or the refusal of too many edges
abbrev pub traced : GraphParts → EntryFunction → Ends → ℕ → List Input → Said
traced graph entry ends steps inputs =
    if nat_lt most_listed (edges_in (runs_of graph entry.function no_predicates steps inputs)) then said_by [] (record { code = 54; place = place.Limit most_listed })
    else answered (traces_text entry.function.parameters (traces_of graph entry.function ends steps inputs))

-- that is said
abbrev pub IsTraced : GraphParts → EntryFunction → Ends → ℕ → List Input → Said → Type 0
IsTraced graph entry ends steps inputs said = said ≡ traced graph entry ends steps inputs
