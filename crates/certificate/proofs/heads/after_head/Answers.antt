use Rattle.std.proofs.Common.{arith}
use Rattle.cnf.specs.Dimacs.{head_text}
use Rattle.certificate.proofs.HeadLaws.{line_is, head_lacks}
use Rattle.certificate.proofs.heads.after_head.Goals as goal

pub returns-in-None : goal.returns-in-None
returns-in-None c = λ v n more small fits e.
    c.in-None.ensures v n small fits (line_is _ _ _ (head_text v n) more c.in-Some.ensures.0 c.in-Some.ensures.1 (head_lacks v n (omega arith) (omega arith)) e)
