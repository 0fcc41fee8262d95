-- Which codes a refusal of each stage has.
use Rattle.std.specs.Prelude.{◌≡◌, ℕ, Bool, true, false, List, [], ◌∷◌, ◌++◌, IsSomeAnd}
use Rattle.fq_core.specs.declared.refusal.Refusal.{Refusal}
use Rattle.c_front.specs.Codes.{text_codes}
use Rattle.cfa.specs.declared.parts.Function.{Function}
use Rattle.cfa.specs.declared.parts.GraphParts.{GraphParts}
use Rattle.c_meaning.specs.declared.ends.Ends.{Ends}
use Rattle.c_types_laws.specs.typing_faults.Laws.{IsOneOf}
use Rattle.command_words.specs.Reading.{Text}
use Rattle.command.specs.declared.status.Status.{Status}
use Rattle.command.specs.declared.status.Status.TheVariants as status
use Rattle.command.specs.CertificateFile as certificates
use Rattle.command.specs.Inputs as inputs
use Rattle.command.specs.Queries as queries
use Rattle.command.specs.Reads.{Reads}
use Rattle.command.specs.Refusal.{status_of}
use Rattle.command.specs.Sources.{AreRefused, IsReadUpTo}
use Rattle.command.specs.TraceFile as traces

-- ---- the codes of a stage

-- a file that isn't read
abbrev pub unread_codes : List ℕ
unread_codes = 7 ∷ 16 ∷ []

-- reading, predicates, and goals
abbrev pub query_codes : List ℕ
query_codes = 60 ∷ 61 ∷ 62 ∷ 63 ∷ 64 ∷ 65 ∷ 66 ∷ 67 ∷ 70 ∷ 71 ∷ 72 ∷ 73 ∷ []

abbrev pub input_codes : List ℕ
input_codes = unread_codes ++ 50 ∷ 51 ∷ 52 ∷ 53 ∷ []

abbrev pub trace_codes : List ℕ
trace_codes = unread_codes ++ 53 ∷ 55 ∷ 56 ∷ []

abbrev pub certificate_codes : List ℕ
certificate_codes = unread_codes ++ 90 ∷ []

-- ---- the laws

-- each refusal of a stage has one of its codes
pub record RefusalsHaveTheirCodes : Type 0 where
  pub unread : (r : Reads) (files : List Text) (x : Refusal) → IsReadUpTo r files x → IsOneOf unread_codes x.code
  pub sources : (r : Reads) (files : List Text) (x : Refusal) → AreRefused r.holds files x → IsOneOf text_codes x.code
  pub query : (graph : GraphParts) (bytes : List ℕ) (x : Refusal) → queries.IsRefused graph bytes x → IsOneOf query_codes x.code
  pub inputs : (r : Reads) (file : Text) (parameters : ℕ) (x : Refusal) → inputs.AreRefused r file parameters x → IsOneOf input_codes x.code
  pub traces : (r : Reads) (graph : GraphParts) (entry : Function) (ends : Ends) (file : Text) (x : Refusal) → traces.AreRefused r graph entry ends file x → IsOneOf trace_codes x.code
  pub certificate : (r : Reads) (file : Text) (x : Refusal) → certificates.IsRefused r file x → IsOneOf certificate_codes x.code

abbrev pub is_usage : Status → Bool
is_usage status.Usage = true
is_usage _ = false

-- and each of these codes has a status, which isn't that of wrong usage
abbrev pub NoneIsUsage : Type 0
NoneIsUsage = (code : ℕ) → IsOneOf (unread_codes ++ text_codes ++ query_codes ++ input_codes ++ trace_codes ++ certificate_codes) code → IsSomeAnd (status_of code) (λ s. is_usage s ≡ false)
