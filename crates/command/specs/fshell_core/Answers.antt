-- What the program writes, by the bytes that it read and by its status.
use Rattle.std.specs.Prelude.{◌≡◌, ◌⊎◌, ◌<◌, ℕ, List, [], Some, length, take}
use Rattle.command_words.specs.Reading.{Text}
use Rattle.fq_io.specs.MemoryFiles.{content_of}
use Rattle.command.specs.declared.status.Status.{Status}
use Rattle.command.specs.declared.status.Status.TheVariants as status
use Rattle.command.specs.Due.{IsDue}
use Rattle.command.specs.Reads.{Reads}
use Rattle.command.specs.Said.{Said}

-- P holds of reads of files that hold these bytes
abbrev pub Over : List (Text × List ℕ) → (Reads → Type 0) → Type 0
Over texts P = (r : Reads) × (r.holds ≡ content_of texts) × P r

-- this is due of the words, by these bytes of files
abbrev pub IsDueOver : List (Text × List ℕ) → List Text → Said → Type 0
IsDueOver texts words said = Over texts (λ r. IsDue r words said)

-- a first part, and not all
abbrev pub IsFront : List ℕ → List ℕ → Type 0
IsFront part whole = (n : ℕ) × (n < length whole) × (part ≡ take n whole)

-- After a write fault one stream took a first part of what was due, and the other nothing. After want of memory nothing was
-- written. After each other status, what was due was written, and that status was due.
abbrev pub Answers : (Said → Type 0) → Status → List ℕ → List ℕ → Type 0
Answers due status.WriteFault out err = (said : Said) × due said × ((IsFront out said.out × (err ≡ [])) ⊎ ((out ≡ []) × IsFront err said.err))
Answers due status.Memory out err = (out ≡ []) × (err ≡ [])
Answers due s out err = (said : Said) × due said × (said.status ≡ Some s) × (out ≡ said.out) × (err ≡ said.err)
