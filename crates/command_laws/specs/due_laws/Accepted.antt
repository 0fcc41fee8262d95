-- What `prove` writes is a certificate that `check` accepts, and what `prove-bounds` writes is one that `check-bounds` accepts.
use Rattle.std.specs.Prelude.{◌≡◌, ◌⊎◌, ◌≤◌, [], ◌∷◌, ◌++◌, IsTrue, length, map}
use Rattle.fq_io.specs.Counts.{Rose}
use Rattle.report.specs.Suffice.{suffice_text}
use Rattle.command_words.specs.Reading.{Text}
use Rattle.command_words.specs.Request as asks
use Rattle.command_words.specs.Request.{prove, check, Checking, CheckingBounds, Proving, Sufficing}
use Rattle.command.specs.CertificateFile.{most_certificate}
use Rattle.command.specs.Check.{accepted_text}
use Rattle.command.specs.Due.{IsDueOf}
use Rattle.command.specs.Ranges.{within}
use Rattle.command.specs.Reads.{Reads, Sees}
use Rattle.command.specs.Said.{Said, answered}
use Rattle.command_laws.specs.due_laws.Determined.{SaysCertificate, SaysOtherFormula, are_told}

-- the same is asked of `check`, with a certificate in this file
abbrev pub checking_of : Proving → Text → Checking
checking_of m file = record { entry = m.entry; query = m.query; goal = m.goal; certificate = file; sources = m.sources; bounds = m.bounds; ends = m.ends }

-- and of `check-bounds`
abbrev pub checking_bounds_of : Sufficing → Text → CheckingBounds
checking_bounds_of m file = record { entry = m.entry; certificate = file; sources = m.sources; bounds = m.bounds }

-- it is said that the goal is refuted
abbrev pub SaysRefuted : Checking → Said → Type 0
SaysRefuted m said = said ≡ answered (accepted_text m)

-- it is said that the bounds suffice
abbrev pub SaysSufficient : CheckingBounds → Said → Type 0
SaysSufficient m said = said ≡ answered (suffice_text (within m.bounds))

-- Where `prove` says a certificate, the sources still hold the same, and a file holds its bytes, at most 256 MiB, `check` accepts
-- it, or says that the certificate's formula is another one; nothing else is due of it.
abbrev pub CertificatesAreAccepted : Type 0
CertificatesAreAccepted =
    (before after : Reads) (m : Proving) (file : Text) (said verdict : Said)
    → map before.holds m.sources ≡ map after.holds m.sources → (Rose after.faults_before after.faults_after → ⊥) → IsTrue (are_told after (m.sources ++ file ∷ []))
    → IsDueOf before (prove m) said → SaysCertificate said → Sees after.holds file said.out → length said.out ≤ most_certificate
    → IsDueOf after (check (checking_of m file)) verdict → SaysRefuted (checking_of m file) verdict ⊎ SaysOtherFormula verdict

-- the same of `prove-bounds` and `check-bounds`
abbrev pub BoundsCertificatesAreAccepted : Type 0
BoundsCertificatesAreAccepted =
    (before after : Reads) (m : Sufficing) (file : Text) (said verdict : Said)
    → map before.holds m.sources ≡ map after.holds m.sources → (Rose after.faults_before after.faults_after → ⊥) → IsTrue (are_told after (m.sources ++ file ∷ []))
    → IsDueOf before (asks.prove_bounds m) said → SaysCertificate said → Sees after.holds file said.out → length said.out ≤ most_certificate
    → IsDueOf after (asks.check_bounds (checking_bounds_of m file)) verdict → SaysSufficient (checking_bounds_of m file) verdict ⊎ SaysOtherFormula verdict
