use Rattle.std.proofs.Common.{◌≡◌, ◌<◌, ℕ, List, take}
use Rattle.std.specs.Prelude.{IsSome}
use Rattle.std.specs.List.{All}
use Rattle.fq_io_recorded.specs.HandedFiles.{file_of, texts, times_of}
use Rattle.fq_io_recorded.specs.Read.{AreThere, IsOfWanted, times_wanted}
use Rattle.fq_io_recorded.proofs.reading.read_wanted.Given as goal

abbrev pub invariant-loop-wanted : goal.invariant-loop-wanted
invariant-loop-wanted g l = record {
  stand : All (IsOfWanted (g.F.Files.holds l.initial.from) l.all) (texts l.files);
  times : (name : List ℕ) → times_of l.files name ≡ times_wanted name (take l.wanted-index l.all);
  some : (name : List ℕ) → IsSome (file_of l.files name) → 0 < times_of l.files name;
  there : AreThere (texts l.files) (take l.wanted-index l.all);
  same : g.F.Files.holds l.from ≡ g.F.Files.holds l.initial.from;
  no_fault : g.F.Files.faults l.from ≡ g.F.Files.faults l.initial.from;
}
