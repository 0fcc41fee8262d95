-- The words and the files determine what is due of the commands that measure and list, and of least, but for what stays open. What is
-- due of generate, prove, bounds, prove-bounds and sample leaves open which inputs and derivations are found, but not whether something is
-- refused, nor by which line; what is due of check and check-bounds leaves open how the formula is made anew.
use Rattle.std.specs.Prelude.{◌≡◌, ◌⊎◌, ℕ, Bool, true, false, ◌&&◌, List, [], ◌∷◌, ◌++◌, Option, None, Some, IfSome, IsTrue, MatchOption}
use Rattle.std.specs.List.{list_all}
use Rattle.std.specs.Option.{is_some}
use Rattle.c_meaning.specs.declared.input.Input.{Input}
use Rattle.certificate.specs.Certificates.{title}
use Rattle.certificate.specs.declared.difference.Difference.{Difference}
use Rattle.cfa.specs.declared.parts.GraphParts.{GraphParts}
use Rattle.cnf.specs.declared.formula.Formula.{Formula}
use Rattle.derivation_check.specs.declared.verdict.Verdict.{Verdict}
use Rattle.fq_io.specs.Counts.{Rose}
use Rattle.report.specs.Suffice.{left_text, suffice_text}
use Rattle.command_words.specs.Reading.{Text}
use Rattle.command_words.specs.Request as asks
use Rattle.command_words.specs.Request.{Asked, measure, generate, goals, runs, prove, check, suffice, sample, request_of}
use Rattle.command.specs.declared.status.Status.{Status}
use Rattle.command.specs.declared.status.Status.TheVariants as status
use Rattle.command.specs.Check.{accepted_text}
use Rattle.command.specs.Comparison.{other_formula, said_of_verdict}
use Rattle.command.specs.Due.{IsDue}
use Rattle.command.specs.Ranges.{within}
use Rattle.command.specs.Reads.{Reads}
use Rattle.command.specs.Said.{Said, answered}

abbrev pub measures_or_lists : Asked → Bool
measures_or_lists (measure m) = true
measures_or_lists (goals m) = true
measures_or_lists (runs m) = true
measures_or_lists (generate m) = false
measures_or_lists (prove m) = false
measures_or_lists (check m) = false
measures_or_lists (suffice m) = false
measures_or_lists (asks.prove_bounds m) = false
measures_or_lists (asks.check_bounds m) = false
measures_or_lists (asks.least m) = false
measures_or_lists (asks.traces m) = true
measures_or_lists (asks.replay m) = true
measures_or_lists (asks.trees m) = true
measures_or_lists (asks.events m) = true
measures_or_lists (asks.graph sources) = true
measures_or_lists (sample number) = false

-- the files that a command reads
abbrev pub files_of : Asked → List Text
files_of (measure m) = m.sources ++ m.inputs ∷ []
files_of (goals m) = m.sources
files_of (runs m) = m.sources ++ m.inputs ∷ []
files_of (generate m) = m.sources
files_of (prove m) = m.sources
files_of (check m) = m.sources ++ m.certificate ∷ []
files_of (suffice m) = m.sources
files_of (asks.prove_bounds m) = m.sources
files_of (asks.check_bounds m) = m.sources ++ m.certificate ∷ []
files_of (asks.least m) = m.sources
files_of (asks.traces m) = m.sources ++ m.inputs ∷ []
files_of (asks.replay m) = m.sources ++ m.traces ∷ []
files_of (asks.trees m) = m.sources ++ m.inputs ∷ []
files_of (asks.events m) = m.sources ++ m.inputs ∷ []
files_of (asks.graph sources) = sources
files_of (sample number) = []

-- these files tell what they hold
abbrev pub are_told : Reads → List Text → Bool
are_told r files = list_all (λ (file : Text). is_some (r.holds file)) files

-- a command measures or lists, and its files tell what they hold
abbrev pub IsTold : Reads → Asked → Type 0
IsTold r asked = IsTrue (measures_or_lists asked && are_told r (files_of asked))

-- where no read failed, and the words are no command or one of which all is told, at most one text, status and showing is due
abbrev pub AtMostOneIsDue : Type 0
AtMostOneIsDue =
    (r : Reads) (words : List Text) → (Rose r.faults_before r.faults_after → ⊥) → IfSome (request_of words) (IsTold r)
    → (said other : Said) → IsDue r words said → IsDue r words other → said ≡ other

-- ---- of all commands

-- an answer was written whole
abbrev pub is_answer : Status → Bool
is_answer status.Done = true
is_answer status.DoneOpen = true
is_answer status.Usage = false
is_answer status.SourceRefused = false
is_answer status.QueryRefused = false
is_answer status.InputRefused = false
is_answer status.Limit = false
is_answer status.ReadFault = false
is_answer status.WriteFault = false
is_answer status.Memory = false
is_answer status.CertificateRejected = false

-- so ends what is said
abbrev pub answers : Option Status → Bool
answers None = false
answers (Some s) = is_answer s

-- the same is said, or both are answers: where one is a refusal, the other is the same one
abbrev pub AreOfOneKind : Said → Said → Type 0
AreOfOneKind said other = (said ≡ other) ⊎ (IsTrue (answers said.status) × IsTrue (answers other.status))

-- what is said begins with the line of a certificate
pub record SaysCertificate (said : Said) : Type 0 where
  pub rest : List ℕ
  pub is : said.out ≡ title ++ 10 ∷ rest

-- it is said that the certificate's formula isn't the one that was made anew
pub record SaysOtherFormula (said : Said) : Type 0 where
  pub theirs : Formula
  pub ours : Formula
  pub difference : Difference
  pub is : said ≡ other_formula theirs ours difference

-- it is said of a certificate what its comparison comes to: that, or the verdict on its derivation, with this text where it is accepted
abbrev pub SaysCompared : List ℕ → Said → Type 0
SaysCompared text said = SaysOtherFormula said ⊎ ((verdict : Verdict) × (said ≡ said_of_verdict text verdict))

-- the same is said, or what two comparisons of a certificate come to, one of them that the formula is another one
abbrev pub AreOfOneCheck : List ℕ → Said → Said → Type 0
AreOfOneCheck text said other = (said ≡ other) ⊎ (SaysCompared text said × SaysCompared text other × (SaysOtherFormula said ⊎ SaysOtherFormula other))

-- it is said that something stays open, since a search spent its budget
abbrev pub SaysOpen : Said → Type 0
SaysOpen said = said.status ≡ Some status.DoneOpen

-- it is said that an input leaves the bounds
pub record SaysLeft (said : Said) : Type 0 where
  pub graph : GraphParts
  pub entry : ℕ
  pub input : Input
  pub is : said ≡ answered (left_text graph entry input)

-- the same is said, or both are answers, of which one leaves the goal open
abbrev pub AreOfOneLeast : Said → Said → Type 0
AreOfOneLeast said other = (said ≡ other) ⊎ (IsTrue (answers said.status) × IsTrue (answers other.status) × (SaysOpen said ⊎ SaysOpen other))

-- the same is said, or both are answers: one leaves the question open, or both say that an input leaves the bounds
abbrev pub AreOfOneSuffice : Said → Said → Type 0
AreOfOneSuffice said other =
    (said ≡ other) ⊎ (IsTrue (answers said.status) × IsTrue (answers other.status) × ((SaysOpen said ⊎ SaysOpen other) ⊎ (SaysLeft said × SaysLeft other)))

-- they are so, or both are answers that say a certificate
abbrev pub AreOfOneProof : Said → Said → Type 0
AreOfOneProof said other = AreOfOneSuffice said other ⊎ (IsTrue (answers said.status) × IsTrue (answers other.status) × SaysCertificate said × SaysCertificate other)

-- What two texts that are due of one command have to do with each other. Of `check` and `check-bounds` they are the same, or both
-- say what the comparison comes to, and one of them that the formula is another one.
abbrev pub AreAlike : Asked → Said → Said → Type 0
AreAlike (measure m) said other = said ≡ other
AreAlike (goals m) said other = said ≡ other
AreAlike (runs m) said other = said ≡ other
AreAlike (asks.traces m) said other = said ≡ other
AreAlike (asks.replay m) said other = said ≡ other
AreAlike (asks.trees m) said other = said ≡ other
AreAlike (asks.events m) said other = said ≡ other
AreAlike (asks.graph sources) said other = said ≡ other
AreAlike (generate m) said other = AreOfOneKind said other
AreAlike (prove m) said other = AreOfOneKind said other
AreAlike (suffice m) said other = AreOfOneSuffice said other
AreAlike (asks.prove_bounds m) said other = AreOfOneProof said other
AreAlike (asks.least m) said other = AreOfOneLeast said other
AreAlike (sample number) said other = AreOfOneKind said other
AreAlike (check m) said other = AreOfOneCheck (accepted_text m) said other
AreAlike (asks.check_bounds m) said other = AreOfOneCheck (suffice_text (within m.bounds)) said other

-- where no read failed and all files tell what they hold, two texts that are due are alike; where the words are no command,
-- they are one
abbrev pub AtMostOneKindIsDue : Type 0
AtMostOneKindIsDue =
    (r : Reads) (words : List Text) → (Rose r.faults_before r.faults_after → ⊥) → IfSome (request_of words) (λ asked. IsTrue (are_told r (files_of asked)))
    → (said other : Said) → IsDue r words said → IsDue r words other → MatchOption (request_of words) (said ≡ other) (λ asked. AreAlike asked said other)
