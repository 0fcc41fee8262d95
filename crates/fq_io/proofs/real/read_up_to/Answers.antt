use Rattle.std.proofs.Common.{◌≤◌, ◌+◌, ◌++◌, length, take, length-append, length-take, arith}
use Rattle.fq_io.proofs.Appended.{Consumes-append}
use Rattle.fq_io.proofs.real.read_up_to.Goals as goal

pub returns-in_err-extend_from_slice-in-Ok-clause-takes_at_most : goal.returns-in_err-extend_from_slice-in-Ok-clause-takes_at_most
returns-in_err-extend_from_slice-in-Ok-clause-takes_at_most g c =
    let came = take c.in-Ok.count c.read.new.buf in
    let short : length (c.loop.bytes.items ++ came) ≤ c.args.limit + 1 = omega (arith, length-append c.loop.bytes.items came, length-take c.in-Ok.count c.read.new.buf, c.in-Ok.ensures.bound.0, c.read.auto.buf, length-take (c.min.result + 1) c.loop.piece, c.min.ensures, c.len-length.ensures, c.if-length-limit.false) in
    (c.loop.bytes.items ++ came, short, Consumes-append _ _ _ _ _ c.loop.invariant.came c.in-Ok.ensures.bytes.0)
