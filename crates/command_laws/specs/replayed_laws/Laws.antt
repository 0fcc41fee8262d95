-- `replay` accepts what `traces` wrote.
use Rattle.std.specs.Prelude.{◌≡◌, ◌≢◌, ◌⊎◌, ◌≤◌, ℕ, Bool, List, [], ◌∷◌, ◌++◌, IsTrue, length, map}
use Rattle.fq_io.specs.Counts.{Rose}
use Rattle.cfa.specs.declared.parts.GraphParts.{GraphParts}
use Rattle.cfa.specs.declared.state.Predicates.{Predicates}
use Rattle.goals.specs.declared.plan.Plan.{Plan}
use Rattle.trace_file.specs.Reading.{IsFileOf}
use Rattle.trace_file.specs.declared.trace.Trace.{Trace}
use Rattle.command_words.specs.Reading.{Text}
use Rattle.command_words.specs.Request as asks
use Rattle.command_words.specs.Request.{Replaying, Tracing}
use Rattle.command.specs.Due.{IsDueOf}
use Rattle.command.specs.Measure.{IsMeasured}
use Rattle.command.specs.Queries.{IsPlanned}
use Rattle.command.specs.Queries as queries
use Rattle.command.specs.Reads.{Reads, Sees}
use Rattle.command.specs.Runs.{EntryFunction}
use Rattle.command.specs.Said.{Said}
use Rattle.command.specs.Stages.{Says}
use Rattle.command.specs.TraceFile.{inputs_in, longest, most_trace_bytes}
use Rattle.command.specs.Traces.{traces_of}
use Rattle.command_laws.specs.due_laws.Determined.{are_told}
use Rattle.command_laws.specs.traced_laws.Laws.{SaysTraces, edges_in}

-- the same entry, sources and ends are asked of `replay`, with a query and a trace file
abbrev pub replaying_of : Tracing → Text → Text → Bool → Replaying
replaying_of m query file json = record { entry = m.entry; query = query; traces = file; sources = m.sources; ends = m.ends; json = json }

-- The report of measuring the inputs of traces is said, as far as the longest of them. They are those of a file with these bytes, each of
-- them right, and their runs have these edges.
pub record IsReplay (graph : GraphParts) (entry : EntryFunction) (n : Replaying) (bytes : List ℕ) (edges : List (List ℕ)) (said : Said) : Type 0 where
  pub predicates : Predicates
  pub plan : Plan
  pub planned : IsPlanned graph n.query predicates plan
  pub traces : List Trace
  pub file : IsFileOf graph entry.function n.ends predicates bytes traces
  pub same_edges : edges_in traces ≡ edges
  pub measured : IsMeasured graph entry predicates plan n.ends (longest traces) n.json (inputs_in traces) said

-- What `traces` said is the runs of the inputs that it was given, and what `replay` says is a refusal of its query alone, or the report of
-- these runs.
pub record SaysReplay (before : Reads) (m : Tracing) (n : Replaying) (said report : Said) : Type 0 where
  pub traced : SaysTraces before m said
  pub replayed : Says n.sources (queries.IsRefused traced.of.graph n.query) report
      ⊎ IsReplay traced.of.graph traced.of.entry n said.out (edges_in (traces_of traced.of.graph traced.of.entry.function m.ends m.steps traced.given)) report

-- Where `traces` says something, the sources still hold the same, and a file holds these bytes, at most 16 MiB, `replay` with the same
-- entry, sources and ends accepts the file, whatever its query; nothing else is due of it.
abbrev pub TracesAreReplayed : Type 0
TracesAreReplayed =
    (before after : Reads) (m : Tracing) (query file : Text) (json : Bool) (said report : Said)
    → map before.holds m.sources ≡ map after.holds m.sources → (Rose after.faults_before after.faults_after → ⊥) → IsTrue (are_told after (m.sources ++ file ∷ []))
    → IsDueOf before (asks.traces m) said → said.out ≢ [] → Sees after.holds file said.out → length said.out ≤ most_trace_bytes
    → IsDueOf after (asks.replay (replaying_of m query file json)) report → SaysReplay before m (replaying_of m query file json) said report
