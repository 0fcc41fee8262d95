-- What is read of files.
use Rattle.std.specs.Prelude.{◌≡◌, ◌<◌, ℕ, List, Option, Some, IfSome, length}
use Rattle.fq_io.specs.Counts.{Rose, RosePast}
use Rattle.fq_io.specs.declared.files.Files.{Ghosts}

-- what the files told before a call, the name of the last read that failed after it, and the counts of faults and of
-- received bytes
pub record Reads : Type 0 where
  pub holds : List ℕ → Option (List ℕ)
  pub last_failed : Option (Option (List ℕ))
  pub faults_before : ℕ
  pub faults_after : ℕ
  pub received_before : ℕ
  pub received_after : ℕ

abbrev pub reads : {F : Type 0} → Ghosts F → F → F → Reads
reads files old new = record {
  holds = files.holds old;
  last_failed = files.last_failed new;
  faults_before = files.faults old;
  faults_after = files.faults new;
  received_before = files.received old;
  received_after = files.received new;
}

-- these are the bytes of the file, where files tell what they hold
abbrev pub Sees : (List ℕ → Option (List ℕ)) → List ℕ → List ℕ → Type 0
Sees holds file bytes = IfSome (holds file) (λ held. bytes ≡ held)

-- the last read that failed was of this file, where that is told, and the count of faults rose
pub record HasFailedAt (r : Reads) (file : List ℕ) : Type 0 where
  pub last : IfSome r.last_failed (λ last. last ≡ Some file)
  pub rose : Rose r.faults_before r.faults_after

-- the file has more bytes than the limit, where that is told, and more than that were received
pub record IsPast (r : Reads) (limit : ℕ) (file : List ℕ) : Type 0 where
  pub long : IfSome (r.holds file) (λ held. limit < length held)
  pub received : RosePast limit r.received_before r.received_after
