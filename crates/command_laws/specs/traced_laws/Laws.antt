-- What `traces` writes is a trace file of the same runs.
use Rattle.std.specs.Prelude.{◌≡◌, ◌≢◌, ℕ, List, [], length, map}
use Rattle.fq_core.specs.declared.refusal.Refusal.{Refusal}
use Rattle.cfa.specs.declared.state.Predicates.{Predicates}
use Rattle.c_meaning.specs.declared.input.Input.{Input}
use Rattle.trace_file.specs.Reading.{IsFileOf, IsRefused}
use Rattle.trace_file.specs.Written.{traces_text}
use Rattle.trace_file.specs.declared.trace.Trace.{Trace}
use Rattle.command_words.specs.Request as asks
use Rattle.command_words.specs.Request.{Tracing}
use Rattle.command.specs.Due.{IsDueOf}
use Rattle.command.specs.Inputs.{AreInputsOf}
use Rattle.command.specs.Reads.{Reads}
use Rattle.command.specs.Said.{Said, answered}
use Rattle.command.specs.Traces.{traces_of}
use Rattle.command_laws.specs.printed_laws.Named.{NamedEntry}

-- the edges of traces' runs
abbrev pub edges_in : List Trace → List (List ℕ)
edges_in traces = map (λ (trace : Trace). trace.run.edges) traces

-- The traces of the inputs' counted runs are said, with status 0. These bytes are a trace file for the same automaton, entry and ends, in
-- which each line is a whole counted run of its input, whatever the predicates of the query that it is measured by; its traces have the
-- edges of the runs that were traced; and no refusal of a trace file is one of these bytes.
pub record SaysTraces (r : Reads) (m : Tracing) (said : Said) : Type 0 where
  pub of : NamedEntry r m.sources m.entry
  pub given : List Input
  pub inputs : AreInputsOf r m.inputs (length of.entry.function.parameters) given
  pub printed : said ≡ answered (traces_text of.entry.function.parameters (traces_of of.graph of.entry.function m.ends m.steps given))
  pub file : (p : Predicates) → (again : List Trace) × IsFileOf of.graph of.entry.function m.ends p said.out again
      × (edges_in again ≡ edges_in (traces_of of.graph of.entry.function m.ends m.steps given))
  pub kept : (refusal : Refusal) → ¬ IsRefused of.graph of.entry.function m.ends said.out refusal

-- so it is where something is written to standard output, which is so exactly where it is no refusal
abbrev pub TracesAreRead : Type 0
TracesAreRead = (r : Reads) (m : Tracing) (said : Said) → IsDueOf r (asks.traces m) said → said.out ≢ [] → SaysTraces r m said
