use Rattle.std.proofs.Common.{arith}
use Rattle.certificate.specs.Certificates.{derivation_head}
use Rattle.certificate.proofs.HeadLaws.{line_is, derivation_head_lacks}
use Rattle.certificate.proofs.heads.after_derivation_head.Goals as goal

pub returns-in-None : goal.returns-in-None
returns-in-None c = λ count more fits e.
    c.in-None.ensures count fits (line_is _ _ _ (derivation_head count) more c.in-Some.ensures.0 c.in-Some.ensures.1 (derivation_head_lacks count (omega arith)) e)
