-- The certificate of the file that the words name.
use Rattle.std.specs.Prelude.{◌≤◌, ℕ, List, length}
use Rattle.certificate.specs.Certificates.{IsCertificate}
use Rattle.certificate.specs.Refusals.{IsRefusedAtLine}
use Rattle.cnf.specs.declared.derivation.Derivation.{Derivation}
use Rattle.cnf.specs.declared.formula.Formula.{Formula}
use Rattle.fq_core.specs.declared.refusal.Refusal.{Refusal}
use Rattle.command.specs.Reads.{Reads, Sees}
use Rattle.command.specs.Sources.{IsUnread}

-- the bytes of a certificate, at most: 256 MiB
abbrev pub most_certificate : ℕ
most_certificate = 268435456

-- the file holds the certificate of this formula and derivation
pub record AreCertificateOf (r : Reads) (file : List ℕ) (formula : Formula) (derivation : Derivation) : Type 0 where
  pub bytes : List ℕ
  pub seen : Sees r.holds file bytes
  pub short : length bytes ≤ most_certificate
  pub is : IsCertificate bytes formula derivation

-- the file isn't read, or its bytes are no certificate, with the first line that isn't allowed
pub data IsRefused (r : Reads) (file : List ℕ) (refusal : Refusal) : Type 0 where
  at_read : IsUnread r most_certificate file refusal → IsRefused r file refusal
  at_form : (bytes : List ℕ) → Sees r.holds file bytes → length bytes ≤ most_certificate → IsRefusedAtLine bytes refusal → IsRefused r file refusal
