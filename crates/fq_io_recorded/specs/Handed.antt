-- Files that were read before and are handed over, and what is told of them.
use Rattle.std.specs.Prelude.{◌≡◌, ◌+◌, ◌<◌, ℕ, Bool, List, Option, None, Some, find, is_some, map, option_map, replicate}
use Rattle.std.specs.Str.{bytes_eq}
use Rattle.fq_io.specs.MemoryFiles.{content_of}
use Rattle.fq_io_recorded.specs.declared.handed.Handed.{Handed}
use Rattle.fq_io_recorded.specs.declared.handed.Text.{Text}
use Rattle.fq_io_recorded.specs.declared.handed.Text.TheVariants.{Longer, Whole}

-- ---- what is told

-- What stands for a file. For one that is too long it is a text of as many bytes as were read of it, one past the limit.
abbrev pub bytes_told : Text → List ℕ
bytes_told (Whole bytes) = bytes.items
bytes_told (Longer most) = replicate (most + 1) 0

-- the names of files, and what stands for them
abbrev pub texts_told : List (List ℕ × Text) → List (List ℕ × List ℕ)
texts_told = map (λ (entry : List ℕ × Text). (entry.0, bytes_told entry.1))

-- ---- the files that there are

abbrev pub has_name : List ℕ → Handed → Bool
has_name name file = bytes_eq file.name name

-- the first file of this name
abbrev pub first_of : List Handed → List ℕ → Option Handed
first_of files name = find (has_name name) files

-- how often it may be handed over yet
abbrev pub times_of_file : Option Handed → ℕ
times_of_file None = 0
times_of_file (Some file) = file.times

-- as long as a file may be handed over, it is what is told
abbrev pub AreTold : List Handed → List (List ℕ × Text) → Type 0
AreTold files told =
    (name : List ℕ) → 0 < times_of_file (first_of files name) → content_of (texts_told told) name ≡ option_map (λ file. bytes_told file.text) (first_of files name)

-- something is told of the names of these files alone
abbrev pub AreAll : List Handed → List (List ℕ × Text) → Type 0
AreAll files told = (name : List ℕ) → is_some (content_of (texts_told told) name) ≡ is_some (first_of files name)
