-- What a trace file is answered with: its traces, or the refusal of it.
use Rattle.std.specs.Prelude.{◌≡◌, ◌⊎◌, ℕ, ◌+◌, ◌-◌, ◌<◌, ◌≤◌, ◌^◌, min, List, ◌∷◌, ◌++◌, Ok, Err, All, length}
use Rattle.std.specs.List.{AllZip}
use Rattle.fq_core.specs.declared.refusal.Place.{Place}
use Rattle.fq_core.specs.declared.refusal.Place.TheVariants as place
use Rattle.fq_core.specs.declared.refusal.Refusal.{Refusal}
use Rattle.cfa.specs.declared.parts.Function.{Function}
use Rattle.cfa.specs.declared.parts.GraphParts.{GraphParts}
use Rattle.cfa.specs.declared.state.Predicates.{Predicates}
use Rattle.c_meaning.specs.declared.ends.Ends.{Ends}
use Rattle.c_meaning.specs.Runs.{Run, IsRun, edges_in}
use Rattle.path_runner.specs.declared.path.PathRecord.{PathRecord}
use Rattle.path_runner.specs.Paths.{record_of}
use Rattle.trace_file.specs.declared.line.Line.{Line}
use Rattle.trace_file.specs.declared.trace.Trace.{Trace}
use Rattle.trace_file.specs.Form.{Form, form_of}

-- a file has so many traces, at most
abbrev pub most_traces : ℕ
most_traces = 10000

-- the place of a line; the number of one past 2^32 - 1 stands still there
abbrev pub line_place : ℕ → Place
line_place number = place.Line (min number (2 ^ 32 - 1))

abbrev pub refused_at : ℕ → Place → Refusal
refused_at code p = record { code = code; place = p }

module _ (parts : GraphParts) (entry : Function) (ends : Ends) where
  -- a line is right: its edges are those of a run of its input that the ends count
  pub record IsRight (line : Line) : Type 0 where
    pub run : Run
    pub is_run : IsRun parts entry line.input ends run
    pub edges : edges_in run ≡ line.edges

  -- the record of a run that makes the line right
  pub record IsRunOf (p : Predicates) (line : Line) (path : PathRecord) : Type 0 where
    pub run : Run
    pub is_run : IsRun parts entry line.input ends run
    pub edges : edges_in run ≡ line.edges
    pub recorded : path ≡ record_of parts line.input p run

  -- the trace of a right line: its input, and the record of the run
  pub record IsTraceOf (p : Predicates) (line : Line) (trace : Trace) : Type 0 where
    pub input : trace.input ≡ line.input
    pub run : IsRunOf p line trace.run

  -- one line is the first that isn't right
  pub record HasWrongLine (lines : List Line) (refusal : Refusal) : Type 0 where
    pub before : List Line
    pub line : Line
    pub rest : List Line
    pub all : lines ≡ before ++ line ∷ rest
    pub right : All IsRight before
    pub wrong : ¬ IsRight line
    pub is : refusal ≡ refused_at 56 (line_place (length before + 2))

  -- a few lines, of which these are the traces, one for each, in order
  abbrev pub IsReadAs : Predicates → Form → List Trace → Type 0
  IsReadAs p (Err number) traces = ⊥
  IsReadAs p (Ok lines) traces = (length lines ≤ most_traces) × AllZip (IsTraceOf p) lines traces

  -- The refusal is that of a line that has another form; else, where there are more lines than a file may have, that of their
  -- number; and else that of the first line that isn't right.
  abbrev pub IsRefusedAs : Form → Refusal → Type 0
  IsRefusedAs (Err number) refusal = refusal ≡ refused_at 55 (line_place number)
  IsRefusedAs (Ok lines) refusal =
      ((most_traces < length lines) × (refusal ≡ refused_at 53 (place.Limit most_traces))) ⊎ ((length lines ≤ most_traces) × HasWrongLine lines refusal)

  -- the bytes are a trace file whose traces are all right, and are these
  abbrev pub IsFileOf : Predicates → List ℕ → List Trace → Type 0
  IsFileOf p bytes traces = IsReadAs p (form_of (length entry.parameters) bytes) traces

  -- the bytes are refused so
  abbrev pub IsRefused : List ℕ → Refusal → Type 0
  IsRefused bytes refusal = IsRefusedAs (form_of (length entry.parameters) bytes) refusal

-- the refusal of a line that has another form
abbrev pub IsOtherForm : Form → Refusal → Type 0
IsOtherForm (Err number) refusal = refusal ≡ refused_at 55 (line_place number)
IsOtherForm (Ok lines) refusal = ⊥
