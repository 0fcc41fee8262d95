-- What a run of the program writes, and how it ends.
use Rattle.std.specs.Prelude.{◌≡◌, ◌⊎◌, ℕ, Bool, List, Option, Some, IsSomeAnd, IsTrue}
use Rattle.std.specs.Io.KnownBytes.{Appends, Keeps}
use Rattle.fq_core.specs.declared.refusal.Refusal.{Refusal}
use Rattle.fq_io.specs.Bytes.{AppendsPart}
use Rattle.fq_io.specs.Counts.{Rose}
use Rattle.fq_io.specs.declared.sinks.Sink.{Ghosts}
use Rattle.command.specs.declared.status.Status.{Status}
use Rattle.command.specs.declared.status.Status.TheVariants as status
use Rattle.command.specs.Refusal.{line_of, status_of}
use Rattle.command.specs.Said.{Said, status_with}
use Rattle.command.specs.declared.reply.Reply.{Reply}
use Rattle.command.specs.declared.reply.Reply.TheVariants.{Answer, OtherFormula}
use Rattle.command.specs.Watched.{IsShown, Watched}

-- ---- what is written

-- the bytes of a sink before a call and after it, where they are told, its counts of faults, and whether its writes may
-- find no memory
pub record Writes : Type 0 where
  pub before : Option (List ℕ)
  pub after : Option (List ℕ)
  pub faults_before : ℕ
  pub faults_after : ℕ
  pub may_lack_memory : Bool

abbrev pub writes : {S : Type 0} → Ghosts S → S → S → Writes
writes sink old new = record {
  before = sink.taken old;
  after = sink.taken new;
  faults_before = sink.faults old;
  faults_after = sink.faults new;
  may_lack_memory = sink.may_lack_memory;
}

abbrev pub Gains : Writes → List ℕ → Type 0
Gains w bytes = Appends w.before w.after bytes

abbrev pub GainsNone : Writes → Type 0
GainsNone w = Keeps w.before w.after

abbrev pub GainsPart : Writes → List ℕ → Type 0
GainsPart w bytes = AppendsPart w.before w.after bytes

-- all that was said was written
abbrev pub IsWritten : Said → Writes → Writes → Type 0
IsWritten said out err = Gains out said.out × Gains err said.err

-- one sink took a part of what was said, and the other nothing; the one is such that P holds of it
abbrev pub IsCut : (Writes → Type 0) → Said → Writes → Writes → Type 0
IsCut P said out err = (GainsPart out said.out × GainsNone err × P out) ⊎ (GainsNone out × GainsPart err said.err × P err)

abbrev pub HasFailed : Writes → Type 0
HasFailed w = Rose w.faults_before w.faults_after

abbrev pub MayLackMemory : Writes → Type 0
MayLackMemory w = IsTrue w.may_lack_memory

-- Bytes were written, so that the run ends in this status; or their writing was cut short.
abbrev pub EndsWriting : Status → List ℕ → Status → Writes → Type 0
EndsWriting wanted bytes status.WriteFault w = GainsPart w bytes × HasFailed w
EndsWriting wanted bytes status.Memory w = GainsNone w ⊎ (GainsPart w bytes × MayLackMemory w)
EndsWriting wanted bytes s w = (s ≡ wanted) × Gains w bytes

-- the same of a reply, and nothing was written to the other sink
abbrev pub WritesReply : Reply → Status → Writes → Writes → Type 0
WritesReply (Answer text left_open) s out err = EndsWriting (status_with left_open) text.items s out × GainsNone err
WritesReply (OtherFormula line) s out err = EndsWriting status.CertificateRejected line.items s err × GainsNone out

-- the same of a refusal's line
abbrev pub Refuses : List (List ℕ) → Refusal → Status → Writes → Type 0
Refuses sources refusal s err = IsSomeAnd (status_of refusal.code) (λ wanted. EndsWriting wanted (line_of sources refusal) s err)

-- ---- how a run ends, by its status

-- After a write fault, a part of what was due stands in the sink that failed. After want of memory, nothing was written,
-- or a part of what was due to a sink whose writes may find no memory. After each other status, all that was due was
-- written, and that status was due. But for want of memory, the watch was shown what was due, and nothing else.
abbrev pub Ends : (Said → Type 0) → Status → Writes → Writes → Watched → Type 0
Ends due status.WriteFault out err watch = (said : Said) × due said × IsCut HasFailed said out err × IsShown said.shown watch
Ends due status.Memory out err watch = (GainsNone out × GainsNone err) ⊎ ((said : Said) × due said × IsCut MayLackMemory said out err)
Ends due s out err watch = (said : Said) × due said × (said.status ≡ Some s) × IsWritten said out err × IsShown said.shown watch
