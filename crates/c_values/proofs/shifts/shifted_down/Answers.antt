use Rattle.std.proofs.Common.{arith}
use Rattle.c_values.proofs.Bits.{width_below}
use Rattle.c_values.proofs.Sums.{kind_of}
use Rattle.c_values.proofs.Quotients.{signed_shift, unsigned_shift}
use Rattle.c_values.proofs.shifts.shifted_down.Goals as goal

pub overflow_shr-cast_signed : goal.overflow_shr-cast_signed
overflow_shr-cast_signed c =
    let wide = width_below c.args.kind (kind_of c.args.kind c.args.a c.requires.left) in
    omega (arith, c.requires.amount)

pub overflow_shr-result : goal.overflow_shr-result
overflow_shr-result c =
    let wide = width_below c.args.kind (kind_of c.args.kind c.args.a c.requires.left) in
    omega (arith, c.requires.amount)

pub returns-then-kind : goal.returns-then-kind
returns-then-kind c =
    signed_shift c.args.kind c.args.a c.requires.left c.args.amount c.cast_signed.result c.cast_unsigned.result c.if-kind.true
    c.cast_signed.ensures c.cast_unsigned.ensures

pub returns-else-kind : goal.returns-else-kind
returns-else-kind c = unsigned_shift c.args.kind c.args.a c.requires.left c.args.amount c.if-kind.false
