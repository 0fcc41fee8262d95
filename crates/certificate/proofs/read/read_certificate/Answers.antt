use Rattle.std.proofs.Common.{refl}
use Rattle.certificate.proofs.WholeLaws.{bad_title, bad_head}
use Rattle.certificate.proofs.ReadLaws.{clauses_refused}
use Rattle.certificate.proofs.read.read_certificate.Goals as goal

pub returns-in_default : goal.returns-in_default
returns-in_default c = rw c.bad_line.ensures (record { line = 1; is = refl; first = bad_title _ c.in_default.ensures })

pub returns-in_default-after_head : goal.returns-in_default-after_head
returns-in_default-after_head c =
    rw c.bad_line-in_default-after_head.ensures (record { line = 2; is = refl; first = bad_head _ _ c.in-Some.ensures c.in_default-after_head.ensures })

pub stopped-requires : goal.stopped-requires
stopped-requires c =
    let head = c.in-Some-after_head.ensures in
    (clauses_refused _ _ _ _ _ _ c.in-Some.ensures head.0 head.1 head.2 c.in-Err.ensures c.requires).1

pub returns-in-Err : goal.returns-in-Err
returns-in-Err c =
    let head = c.in-Some-after_head.ensures in
    rw c.stopped.ensures (clauses_refused _ _ _ _ _ _ c.in-Some.ensures head.0 head.1 head.2 c.in-Err.ensures c.requires).0
