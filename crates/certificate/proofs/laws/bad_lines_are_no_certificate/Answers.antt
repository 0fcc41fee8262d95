use Rattle.certificate.proofs.PairLaws.{no_certificate}
use Rattle.certificate.proofs.laws.bad_lines_are_no_certificate.Goals as goal

pub returns : goal.returns
returns c = no_certificate
