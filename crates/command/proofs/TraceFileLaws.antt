-- Laws of the traces of a file.
use Rattle.std.proofs.Common.{◌≡◌, ℕ, ◌<◌, ◌≤◌, ◌^◌, All, List, [], ◌∷◌, length, refl, sym, subst, arith}
use Rattle.std.specs.Prelude.{IfErr, IfOk, Option, Result, Some, Ok, Err, slice_get}
use Rattle.std.specs.Global.{Vec}
use Rattle.std.specs.Option.{IsSomeAnd}
use Rattle.std.specs.List.{AllZip}
use Rattle.std.proofs.lemmas.List.{length-map}
use Rattle.std.proofs.lemmas.List.Elements.{All-cons, All-nil, All-head, All-tail}
use Rattle.std.proofs.lemmas.Slice.Zip.{AllZip-long}
use Rattle.cfa.specs.declared.parts.Function.{Function}
use Rattle.cfa.specs.declared.parts.GraphParts.{GraphParts}
use Rattle.cfa.specs.declared.state.Predicates.{Predicates}
use Rattle.c_meaning.specs.Starts.{CanStart}
use Rattle.c_meaning.specs.declared.ends.Ends.{Ends}
use Rattle.c_meaning.specs.declared.input.Input.{Input}
use Rattle.trace_file.specs.Form.{Form, form_of}
use Rattle.fq_core.specs.Refusals.{IfRefused}
use Rattle.fq_core.specs.declared.refusal.Fault.{Fault}
use Rattle.trace_file.specs.Reading.{IsFileOf, IsReadAs, IsRefused, IsTraceOf}
use Rattle.trace_file.specs.declared.line.Line.{Line}
use Rattle.trace_file.specs.declared.trace.Trace.{Trace}
use Rattle.trace_file.proofs.ReadLaws.{can_start}
use Rattle.command.specs.Reads.{Reads, Sees}
use Rattle.suite_problem.specs.declared.planned.Planned.{Planned}
use Rattle.command.specs.Calls.{AreTracesAs}
use Rattle.command.specs.TraceFile.{at_form, inputs_in, most_trace_bytes}
use Rattle.command.proofs.ReadsLaws.{refused_map}

module _ (graph : GraphParts) (f : Function) (ends : Ends) (p : Predicates) where
  abbrev Starts : Input → Type 0
  Starts input = CanStart f input.words

  -- the traces have the inputs of their lines
  zip_starts : (lines : List Line) (traces : List Trace) → AllZip (IsTraceOf graph f ends p) lines traces → All (λ (line : Line). Starts line.input) lines → All Starts (inputs_in traces)
  zip_starts [] [] each start = All-nil Starts
  zip_starts [] (trace ∷ traces) each start = absurd each
  zip_starts (line ∷ lines) [] each start = absurd each
  zip_starts (line ∷ lines) (trace ∷ traces) each start =
      let head = subst Starts (sym each.0.input) (All-head (λ (l : Line). Starts l.input) line lines start) in
      All-cons Starts trace.input (inputs_in traces) head (zip_starts lines traces each.1 (All-tail (λ (l : Line). Starts l.input) line lines start))

  module _ (bytes : List ℕ) (plain : f.arrays ≡ []) where
    by_form : (form : Form) (traces : List Trace) → form_of (length f.parameters) bytes ≡ form → IsReadAs graph f ends p form traces → All Starts (inputs_in traces) × (length (inputs_in traces) < 2 ^ 32)
    by_form (Err number) traces is read = absurd read
    by_form (Ok lines) traces is read =
        let few = read.0 in
        let long = AllZip-long (IsTraceOf graph f ends p) lines traces read.1 in
        (zip_starts lines traces read.1 (can_start graph p ends bytes (length f.parameters) (Some f) lines plain refl is), omega (arith, few, long, length-map traces (λ (trace : Trace). trace.input)))

    -- a run can start on the input of each trace of a file, and there are few
    pub can_replay : (traces : List Trace) → IsFileOf graph f ends p bytes traces → All Starts (inputs_in traces) × (length (inputs_in traces) < 2 ^ 32)
    can_replay traces is = by_form (form_of (length f.parameters) bytes) traces refl is

-- what holds where a function is there holds of it
pub at_function : (o : Option Function) (f : Function) (P : Function → Type 0) → o ≡ Some f → IsSomeAnd o P → P f
at_function o f P there holds = subst (λ (x : Option Function). IsSomeAnd x P) there holds

-- what the call that reads traces answers
pub traces_as : (r : Reads) (planned : Planned) (ends : Ends) (file bytes : List ℕ) → Sees r.holds file bytes → length bytes ≤ most_trace_bytes → (result : Result (Vec Trace) Fault)
    → (let graph = planned.entry.graph.now in let functions = slice_get graph.functions planned.entry.number in
    IfOk result (λ given. IsSomeAnd functions (λ f. IsFileOf graph f ends planned.predicates bytes given.items))
    → IfErr result (λ e. IfRefused e (λ x. IsSomeAnd functions (λ f. IsRefused graph f ends bytes x))) → AreTracesAs r planned ends file result)
traces_as r planned ends file bytes seen short (Ok given) ok refused =
    let e = planned.entry in
    let is = at_function (slice_get e.graph.now.functions e.number) e.function.now (λ f. IsFileOf e.graph.now f ends planned.predicates bytes given.items) e.there ok in
    record { bytes = bytes; seen = seen; short = short; is = is }
traces_as r planned ends file bytes seen short (Err fault) ok refused =
    let e = planned.entry in
    refused_map fault refused (λ x why. at_form bytes seen short (at_function (slice_get e.graph.now.functions e.number) e.function.now (λ f. IsRefused e.graph.now f ends bytes x) e.there why))
