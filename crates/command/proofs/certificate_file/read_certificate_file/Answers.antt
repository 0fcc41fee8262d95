use Rattle.std.proofs.Common.{length, ap, arith}
use Rattle.std.proofs.lemmas.Result.{err_from_is_err_and}
use Rattle.command.specs.CertificateFile.{at_read}
use Rattle.command.proofs.CertificateFileLaws.{by_fault}
use Rattle.command.proofs.ReadsLaws.{refused_map}
use Rattle.command.proofs.certificate_file.read_certificate_file.Goals as goal

pub returns-in_err-bytes : goal.returns-in_err-bytes
returns-in_err-bytes g c =
    let p = err_from_is_err_and c.from_residual.result c.from_residual.ensures.1 in
    rw (p.1, p.2) (refused_map c.in_err-bytes.field-0.0 c.in_err-bytes.ensures.unread (λ x unread. at_read unread))

pub read_certificate-requires : goal.read_certificate-requires
read_certificate-requires g c = omega (arith, ap length c.deref.ensures.value, c.in_ok-bytes.ensures.short)

pub returns-in_err-formula : goal.returns-in_err-formula
returns-in_err-formula g c =
    let p = err_from_is_err_and c.from_residual-in_err-formula.result c.from_residual-in_err-formula.ensures.1 in
    let cause = rw c.deref.ensures.value at c.in_err-formula.ensures in
    rw (p.1, p.2) (by_fault _ _ _ c.in_ok-bytes.ensures.held (omega (arith, c.in_ok-bytes.ensures.short)) c.in_err-formula.field-0.0 cause)

pub returns : goal.returns
returns g c =
    let is = rw c.deref.ensures.value at c.in_ok-formula.ensures in
    record { bytes = c.in_ok-bytes.bytes.items; seen = c.in_ok-bytes.ensures.held; short = omega (arith, c.in_ok-bytes.ensures.short); is = is }
