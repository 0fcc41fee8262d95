use Rattle.certificate.proofs.ReadLaws.{certificate_pushed}
use Rattle.certificate.proofs.write.write_certificate.Goals as goal

pub returns : goal.returns
returns c =
    rw (c.in_ok-push_lines.ensures, c.in_ok-push_derivation_head.ensures, c.in_ok-push_dimacs.ensures, c.in_ok-text.ensures.items, c.as_slice.ensures, c.len.ensures)
    (certificate_pushed c.args.formula.now c.args.derivation.now)
