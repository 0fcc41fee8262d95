use Rattle.std.proofs.Common.{refl, arith}
use Rattle.certificate.proofs.WholeLaws.{bad_derivation_head}
use Rattle.certificate.proofs.ReadLaws.{lines_refused, end_refused, whole_read, lines_read, number_fits, not_empty, is_nothing}
use Rattle.certificate.proofs.read.read_derivation.Goals as goal

pub bad_line-requires : goal.bad_line-requires
bad_line-requires c = number_fits _ _ (bad_derivation_head _ _ _ _ _ c.requires.read c.requires.all c.in_default.ensures) c.requires.bytes

pub returns-in_default : goal.returns-in_default
returns-in_default c =
    rw c.bad_line.ensures (record { line = _; is = refl; first = bad_derivation_head _ _ _ _ _ c.requires.read c.requires.all c.in_default.ensures })

pub stopped-requires : goal.stopped-requires
stopped-requires c =
    let head = c.in-Some.ensures in
    (lines_refused _ _ _ _ _ _ _ _ c.requires.read c.requires.all head.0 head.1 c.in-Err.ensures c.requires.bytes).1

pub returns-in-Err : goal.returns-in-Err
returns-in-Err c =
    let head = c.in-Some.ensures in
    rw c.stopped.ensures (lines_refused _ _ _ _ _ _ _ _ c.requires.read c.requires.all head.0 head.1 c.in-Err.ensures c.requires.bytes).0

pub bad_line-requires-then-not-is_empty : goal.bad_line-requires-then-not-is_empty
bad_line-requires-then-not-is_empty c =
    let head = c.in-Some.ensures in
    number_fits _ _ (end_refused _ _ _ _ _ _ _ _ _ c.requires.read c.requires.all head.0 head.1 c.in-Ok.ensures (not_empty _ _ c.is_empty.ensures c.if-not-is_empty.true)) c.requires.bytes

pub returns-then-not-is_empty : goal.returns-then-not-is_empty
returns-then-not-is_empty c =
    let head = c.in-Some.ensures in
    rw c.bad_line-then-not-is_empty.ensures
    (record { line = _; is = refl; first = end_refused _ _ _ _ _ _ _ _ _ c.requires.read c.requires.all head.0 head.1 c.in-Ok.ensures (not_empty _ _ c.is_empty.ensures c.if-not-is_empty.true) })

pub returns : goal.returns
returns c =
    let head = c.in-Some.ensures in
    whole_read _ _ _ _ _ _ (lines_read _ _ _ _ _ _ _ _ _ _ c.requires.read c.requires.all head.0 head.1 c.in-Ok.ensures (omega arith)) c.in-Ok.ensures.number (is_nothing _ _ c.is_empty.ensures c.if-not-is_empty.false)
