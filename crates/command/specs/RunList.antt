-- The runs of inputs, as they are listed.
use Rattle.std.specs.Prelude.{◌≡◌, ◌<◌, ◌≤◌, ℕ, List, [], Result, Ok, Err, length, map, nat_lt, if◌then◌else◌}
use Rattle.std.specs.Global.{Vec}
use Rattle.std.specs.List.{sum_by}
use Rattle.fq_core.specs.Refusals.{IfRefused}
use Rattle.fq_core.specs.declared.refusal.Fault.{Fault}
use Rattle.fq_core.specs.declared.refusal.Place.TheVariants as place
use Rattle.fq_core.specs.declared.refusal.Refusal.{Refusal}
use Rattle.cfa.specs.declared.parts.GraphParts.{GraphParts}
use Rattle.c_meaning.specs.declared.input.Input.{Input}
use Rattle.path_runner.specs.declared.path.PathRecord.{PathRecord}
use Rattle.path_runner.specs.declared.path.RunEnd.{RunEnd}
use Rattle.report.specs.Texts.{runs_text}
use Rattle.command.specs.Refusal.{said_by}
use Rattle.command.specs.Runs.{EntryFunction, no_predicates, runs_of}
use Rattle.command.specs.Said.{Said, answered}

-- the edges that are listed, at most
abbrev pub most_listed : ℕ
most_listed = 10000000

abbrev pub edges_in : List PathRecord → ℕ
edges_in runs = sum_by (λ (run : PathRecord). length run.edges) runs

-- how a run ends, and its edges
abbrev pub ending : PathRecord → RunEnd × List ℕ
ending run = (run.end, run.edges)

-- the runs have more edges than are listed
abbrev pub too_many : Refusal
too_many = record { code = 54; place = place.Limit most_listed }

-- what is answered of these runs, or the refusal of too many edges
abbrev pub unless_many : List PathRecord → List ℕ → Said
unless_many runs text = if nat_lt most_listed (edges_in runs) then said_by [] too_many else answered text

-- the list of these runs
abbrev pub listed : GraphParts → ℕ → List PathRecord → Said
listed graph entry runs = unless_many runs (runs_text graph entry (map ending runs))

-- the runs of these inputs, each cut after so many edges
abbrev pub recorded : GraphParts → EntryFunction → ℕ → List Input → Said
recorded graph entry steps inputs = listed graph entry.number (runs_of graph entry.function no_predicates steps inputs)

-- these runs have no more edges than are listed, and these ends and edges; or they have more
abbrev pub AreRecorded : List PathRecord → Result (Vec (RunEnd × List ℕ)) Fault → Type 0
AreRecorded runs (Ok recorded) = (edges_in runs ≤ most_listed) × (recorded.items ≡ map ending runs)
AreRecorded runs (Err e) = IfRefused e (λ x. (x ≡ too_many) × (most_listed < edges_in runs))

abbrev pub AreRecordedAs : GraphParts → EntryFunction → ℕ → List Input → Result (Vec (RunEnd × List ℕ)) Fault → Type 0
AreRecordedAs graph entry steps inputs result = AreRecorded (runs_of graph entry.function no_predicates steps inputs) result

-- that is said
abbrev pub IsRecorded : GraphParts → EntryFunction → ℕ → List Input → Said → Type 0
IsRecorded graph entry steps inputs said = said ≡ recorded graph entry steps inputs
