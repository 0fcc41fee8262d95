-- The sources of a request.
use Rattle.std.specs.Prelude.{List, [], ◌∷◌, codes}
use Rattle.command_words.specs.Reading.{Text}
use Rattle.command_words.specs.Request as asks
use Rattle.command_words.specs.Request.{Asked, measure, generate, goals, runs, prove, check, suffice, sample}

-- the file of a program that is made from a number
abbrev pub sample_file : Text
sample_file = codes "sample.c"

-- the names of the sources' files
abbrev pub sources_of : Asked → List Text
sources_of (measure m) = m.sources
sources_of (generate m) = m.sources
sources_of (goals m) = m.sources
sources_of (runs m) = m.sources
sources_of (prove m) = m.sources
sources_of (check m) = m.sources
sources_of (suffice m) = m.sources
sources_of (asks.prove_bounds m) = m.sources
sources_of (asks.check_bounds m) = m.sources
sources_of (asks.least m) = m.sources
sources_of (asks.traces m) = m.sources
sources_of (asks.replay m) = m.sources
sources_of (asks.trees m) = m.sources
sources_of (asks.events m) = m.sources
sources_of (asks.graph sources) = sources
sources_of (sample number) = sample_file ∷ []
