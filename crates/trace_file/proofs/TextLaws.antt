-- The text of traces is a trace file of right traces, with the same runs.
use Rattle.std.proofs.Common.{◌≡◌, ℕ, ◌+◌, ◌≤◌, List, [], ◌∷◌, length, map, Some, refl, sym, ap, subst, ◌∙◌, All, append_assoc}
use Rattle.std.specs.Prelude.{◌==◌, Ok, codes}
use Rattle.std.specs.List.{AllZip, flat_map}
use Rattle.std.proofs.lemmas.List.{length-map}
use Rattle.std.proofs.lemmas.List.Elements.{All-head, All-tail}
use Rattle.std.proofs.lemmas.List.Splits.{slice_split_at}
use Rattle.c_meaning.specs.declared.ends.Ends.{Ends}
use Rattle.c_meaning.specs.Starts.{fitted_words}
use Rattle.cfa.specs.Graph.{IsGraph}
use Rattle.cfa.specs.declared.parts.Function.{Function}
use Rattle.cfa.specs.declared.parts.GraphParts.{GraphParts}
use Rattle.cfa.specs.declared.state.Predicates.{Predicates}
use Rattle.path_runner.specs.declared.path.PathRecord.{PathRecord}
use Rattle.suite.proofs.Trimming.{values}
use Rattle.trace_file.specs.declared.line.Line.{Line}
use Rattle.trace_file.specs.declared.trace.Trace.{Trace}
use Rattle.trace_file.specs.Form.{form_of, input_with, line_before, line_in, line_with, lines_from, title}
use Rattle.trace_file.specs.Laws.{RecordsRun, TextsAreRead}
use Rattle.trace_file.specs.Reading.{IsFileOf, IsRunOf, IsTraceOf, most_traces}
use Rattle.trace_file.specs.Written.{trace_line, traces_text}
use Rattle.trace_file.proofs.FormLaws.{form_more, line_more, split}
use Rattle.trace_file.proofs.LineTexts.{AreValues, line_read, line_text, no_feed, trace_line_is}
use Rattle.trace_file.proofs.NumberLaws.{lacks_by}
use Rattle.trace_file.proofs.SameRuns.{AreKinds, own_kinds, taken_values, written, written_record, written_run}

module _ (parts : GraphParts) (graph : IsGraph parts) (f : Function) (own : AreKinds f.parameters) (p : Predicates) (ends : Ends) where
  abbrev Records : Trace → Type 0
  Records trace = RecordsRun parts f p ends trace

  -- the line that is written of a trace, and the trace that is read of it
  abbrev line_of : Trace → Line
  line_of trace = line_with (input_with (fitted_words trace.input.words f.parameters) (values trace.run.taken)) trace.run.edges

  abbrev again_of : Trace → Trace
  again_of trace = record { input = (line_of trace).input; run = trace.run }

  abbrev text_of : Trace → List ℕ
  text_of trace = line_text trace.input.words f.parameters trace.run.taken trace.run.edges

  values_of : (trace : Trace) → Records trace → AreValues trace.run.taken
  values_of trace is = subst (λ (run : PathRecord). AreValues run.taken) (sym is.recorded) (taken_values parts graph f own p ends trace.input is.run is.is_run)

  line_is : (trace : Trace) → Records trace → line_in (length f.parameters) (text_of trace) ≡ Some (line_of trace)
  line_is trace is = line_read trace.input.words f.parameters trace.run.taken trace.run.edges is.words own (values_of trace is) is.small

  -- ---- the form

  lines_are : (number : ℕ) (traces : List Trace) → All Records traces → lines_from (length f.parameters) number (split (flat_map (trace_line f.parameters) traces)) ≡ Ok (map line_of traces)
  lines_are number [] each = refl
  lines_are number (trace ∷ traces) each =
      let rest = flat_map (trace_line f.parameters) traces in
      let is = All-head Records trace traces each in
      let parted : split (flat_map (trace_line f.parameters) (trace ∷ traces)) ≡ text_of trace ∷ split rest = ap split (trace_line_is f.parameters trace rest)
      ∙ slice_split_at (λ byte. byte == 10) (text_of trace) 10 rest (no_feed trace.input.words f.parameters trace.run.taken trace.run.edges is.words own (values_of trace is) is.small) refl in
      ap (lines_from (length f.parameters) number) parted
      ∙ line_more (length f.parameters) number (text_of trace) rest
      ∙ ap (λ o. line_before number o (lines_from (length f.parameters) (number + 1) (split rest))) (line_is trace is)
      ∙ ap (line_before number (Some (line_of trace))) (lines_are (number + 1) traces (All-tail Records trace traces each))

  form_is : (traces : List Trace) → All Records traces → form_of (length f.parameters) (traces_text f.parameters traces) ≡ Ok (map line_of traces)
  form_is traces each =
      let rest = flat_map (trace_line f.parameters) traces in
      form_more (length f.parameters) (traces_text f.parameters traces) title rest (ap split (append_assoc title (codes "\n") rest) ∙ slice_split_at (λ byte. byte == 10) title 10 rest (lacks_by 10 title refl) refl)
      ∙ lines_are 2 traces each

  -- ---- the runs

  right_one : (trace : Trace) → Records trace → IsTraceOf parts f ends p (line_of trace) (again_of trace)
  right_one trace is =
      let made = written parts graph f own p ends trace.input is.run is.is_run in
      let same : made ≡ (line_of trace).input = ap (λ (run : PathRecord). input_with (fitted_words trace.input.words f.parameters) (values run.taken)) (sym is.recorded) in
      let Run-of : Line → Type 0 = λ line. IsRunOf parts f ends p line trace.run in
      record {
        input = refl;
        run = subst Run-of (ap (λ input. line_with input trace.run.edges) same) (record {
          run = is.run;
          is_run = written_run parts graph f own p ends trace.input is.run is.is_run;
          edges = sym (ap (λ (run : PathRecord). run.edges) is.recorded);
          recorded = is.recorded ∙ sym (written_record parts graph f own p ends trace.input is.run is.is_run);
        });
      }

  all_right : (traces : List Trace) → All Records traces → AllZip (IsTraceOf parts f ends p) (map line_of traces) (map again_of traces)
  all_right [] each = tt
  all_right (trace ∷ traces) each = (right_one trace (All-head Records trace traces each), all_right traces (All-tail Records trace traces each))

  same_runs : (traces : List Trace) → map (λ (trace : Trace). trace.run) (map again_of traces) ≡ map (λ (trace : Trace). trace.run) traces
  same_runs [] = refl
  same_runs (trace ∷ traces) = ap (λ runs. trace.run ∷ runs) (same_runs traces)

  pub file_of : (traces : List Trace) → length traces ≤ most_traces → All Records traces
      → (again : List Trace) × IsFileOf parts f ends p (traces_text f.parameters traces) again × (map (λ (trace : Trace). trace.run) again ≡ map (λ (trace : Trace). trace.run) traces)
  file_of traces few each =
      let many : length (map line_of traces) ≤ most_traces = rw (length-map traces line_of) few in
      (map again_of traces, rw (form_is traces each) (many, all_right traces each), same_runs traces)

pub texts_read : TextsAreRead
texts_read parts k entry p ends traces graph own few each = file_of parts graph entry (own_kinds parts k entry graph own) p ends traces few each
