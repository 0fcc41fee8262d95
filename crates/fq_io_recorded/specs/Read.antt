-- Which of the files that are wanted were read, and what stands for them.
use Rattle.std.specs.Prelude.{◌≡◌, ◌<◌, ◌≤◌, ℕ, List, Option, Some, IfSome, IsSome, count_by, length, slice_get}
use Rattle.std.specs.List.{All}
use Rattle.std.specs.Str.{bytes_eq}
use Rattle.fq_io.specs.MemoryFiles.{content_of}
use Rattle.fq_io_recorded.specs.HandedFiles.{times_of}
use Rattle.fq_io_recorded.specs.declared.handed_files.HandedFiles.{HandedFiles}
use Rattle.fq_io_recorded.specs.declared.wanted.Wanted.{Wanted}

-- The bytes stand for this file: they are what it holds, where that is told, or both are longer than the limit.
pub data Stands (holds : List ℕ → Option (List ℕ)) (wanted : Wanted) (bytes : List ℕ) : Type 0 where
  whole : IfSome (holds wanted.name.now) (λ held. bytes ≡ held) → length bytes ≤ wanted.most → Stands holds wanted bytes
  longer : IfSome (holds wanted.name.now) (λ held. wanted.most < length held) → wanted.most < length bytes → Stands holds wanted bytes

-- the entry is of a file that is wanted
pub record IsOfWanted (holds : List ℕ → Option (List ℕ)) (all : List Wanted) (entry : List ℕ × List ℕ) : Type 0 where
  pub place : ℕ
  pub wanted : Wanted
  pub one : slice_get all place ≡ Some wanted
  pub name : entry.0 ≡ wanted.name.now
  pub stands : Stands holds wanted entry.1

-- each of these was read
abbrev pub AreThere : List (List ℕ × List ℕ) → List Wanted → Type 0
AreThere texts all = All (λ (wanted : Wanted). IsSome (content_of texts wanted.name.now)) all

-- how often a file of this name is wanted
abbrev pub times_wanted : List ℕ → List Wanted → ℕ
times_wanted name all = count_by (λ (wanted : Wanted). bytes_eq wanted.name.now name) all

-- each name may be handed over as often as it is wanted
abbrev pub AreAsOften : HandedFiles → List Wanted → Type 0
AreAsOften files all = (name : List ℕ) → times_of files name ≡ times_wanted name all
