-- The files that the words name.
use Rattle.std.specs.Prelude.{◌≡◌, ◌⊎◌, ◌++◌, ℕ, List, [], ◌∷◌, Option, None, Some, map}
use Rattle.std.specs.List.{All}
use Rattle.command_words.specs.Reading.{Text}
use Rattle.command_words.specs.Request.{Asked, measure, generate, goals, runs, prove, check, suffice, prove_bounds, check_bounds, least, traces, replay, trees, events, graph, sample, request_of}
use Rattle.command.specs.CertificateFile.{most_certificate}
use Rattle.command.specs.Inputs.{most_inputs}
use Rattle.command.specs.Sources.{most_source}
use Rattle.command.specs.TraceFile.{most_trace_bytes}
use Rattle.fq_io_recorded.specs.declared.wanted.Wanted.{Wanted}
use Rattle.fq_io_recorded.specs.Read.{AreThere, IsOfWanted}

-- the names of files, and how many bytes each may have
abbrev pub shown : List Wanted → List (Text × ℕ)
shown = map (λ (wanted : Wanted). (wanted.name.now, wanted.most))

abbrev pub sources : List Text → List (Text × ℕ)
sources = map (λ (name : Text). (name, most_source))

abbrev pub and_file : List Text → Text → ℕ → List (Text × ℕ)
and_file names name most = sources names ++ (name, most) ∷ []

-- the files in the order in which they are looked at
abbrev pub named_by : Asked → List (Text × ℕ)
named_by (measure m) = and_file m.sources m.inputs most_inputs
named_by (generate m) = sources m.sources
named_by (goals m) = sources m.sources
named_by (runs m) = and_file m.sources m.inputs most_inputs
named_by (prove m) = sources m.sources
named_by (check m) = and_file m.sources m.certificate most_certificate
named_by (suffice m) = sources m.sources
named_by (prove_bounds m) = sources m.sources
named_by (check_bounds m) = and_file m.sources m.certificate most_certificate
named_by (least m) = sources m.sources
named_by (traces m) = and_file m.sources m.inputs most_inputs
named_by (replay m) = and_file m.sources m.traces most_trace_bytes
named_by (trees m) = and_file m.sources m.inputs most_inputs
named_by (events m) = and_file m.sources m.inputs most_inputs
named_by (graph names) = sources names
named_by (sample size) = []

-- words that are no command name none
abbrev pub named_in : Option Asked → List (Text × ℕ)
named_in None = []
named_in (Some asked) = named_by asked

-- These stand for files that the words name, and for each of them where no read failed.
pub record AreReadBy (holds : List ℕ → Option (List ℕ)) (words : List Text) (texts : List (Text × List ℕ)) (HasFailed : Type 0) : Type 0 where
  pub all : List Wanted
  pub named : shown all ≡ named_in (request_of words)
  pub stand : All (IsOfWanted holds all) texts
  pub there : HasFailed ⊎ AreThere texts all
