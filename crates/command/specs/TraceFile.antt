-- The trace file that the words name.
use Rattle.std.specs.Prelude.{◌≤◌, ℕ, max, List, [], ◌∷◌, length, map}
use Rattle.fq_core.specs.declared.refusal.Refusal.{Refusal}
use Rattle.cfa.specs.declared.parts.Function.{Function}
use Rattle.cfa.specs.declared.parts.GraphParts.{GraphParts}
use Rattle.cfa.specs.declared.state.Predicates.{Predicates}
use Rattle.c_meaning.specs.declared.ends.Ends.{Ends}
use Rattle.c_meaning.specs.declared.input.Input.{Input}
use Rattle.trace_file.specs.declared.trace.Trace.{Trace}
use Rattle.trace_file.specs.Reading.{IsFileOf, IsRefused}
use Rattle.command.specs.Reads.{Reads, Sees}
use Rattle.command.specs.Sources.{IsUnread}

-- the bytes of a trace file, at most: 16 MiB
abbrev pub most_trace_bytes : ℕ
most_trace_bytes = 16777216

module _ (r : Reads) (graph : GraphParts) (entry : Function) (ends : Ends) (file : List ℕ) where
  -- the file holds these traces, which are all right
  pub record AreTracesOf (p : Predicates) (traces : List Trace) : Type 0 where
    pub bytes : List ℕ
    pub seen : Sees r.holds file bytes
    pub short : length bytes ≤ most_trace_bytes
    pub is : IsFileOf graph entry ends p bytes traces

  -- the file isn't read, or its bytes are refused
  pub data AreRefused (refusal : Refusal) : Type 0 where
    at_read : IsUnread r most_trace_bytes file refusal → AreRefused refusal
    at_form : (bytes : List ℕ) → Sees r.holds file bytes → length bytes ≤ most_trace_bytes → IsRefused graph entry ends bytes refusal → AreRefused refusal

abbrev pub inputs_in : List Trace → List Input
inputs_in traces = map (λ (trace : Trace). trace.input) traces

-- the most edges of a trace
abbrev pub longest : List Trace → ℕ
longest [] = 0
longest (trace ∷ traces) = max (length trace.run.edges) (longest traces)
