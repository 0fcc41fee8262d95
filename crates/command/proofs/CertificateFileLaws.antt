-- What is read of a certificate's file.
use Rattle.std.proofs.Common.{◌≤◌, ℕ, List, length}
use Rattle.certificate.specs.Refusals.{IsRefusal}
use Rattle.fq_core.specs.Refusals.{IfRefused}
use Rattle.fq_core.specs.declared.refusal.Fault.{Fault}
use Rattle.fq_core.specs.declared.refusal.Fault.TheVariants as fault
use Rattle.command.specs.CertificateFile.{IsRefused, at_form, most_certificate}
use Rattle.command.specs.Reads.{Reads, Sees}

module _ (r : Reads) (file bytes : List ℕ) (seen : Sees r.holds file bytes) (short : length bytes ≤ most_certificate) where
  -- its bytes are no certificate
  pub by_fault : (e : Fault) → IsRefusal bytes e → IfRefused e (IsRefused r file)
  by_fault (fault.Refused x) is = at_form bytes seen short is
  by_fault fault.Memory is = tt
