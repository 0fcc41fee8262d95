-- Files that were read before and are handed over, as others see them.
use Rattle.std.specs.Prelude.{ℕ, List, Option}
use Rattle.fq_io_recorded.specs.declared.handed.Handed.{Handed}
use Rattle.fq_io_recorded.specs.declared.handed_files.HandedFiles.{HandedFiles}
use Rattle.fq_io_recorded.specs.Handed.{first_of, texts_told, times_of_file}

-- the names of the files, and what stands for each
abbrev pub texts : HandedFiles → List (List ℕ × List ℕ)
texts files = texts_told files.told.items

-- the first file of this name
abbrev pub file_of : HandedFiles → List ℕ → Option Handed
file_of files name = first_of files.files.items name

-- how often it may be handed over yet
abbrev pub times_of : HandedFiles → List ℕ → ℕ
times_of files name = times_of_file (file_of files name)
