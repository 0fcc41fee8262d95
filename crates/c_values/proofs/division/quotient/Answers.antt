use Rattle.c_values.proofs.Quotients.{can_divide, divisor_is_positive, signed_quotient, unsigned_quotient}
use Rattle.c_values.proofs.division.quotient.Goals as goal

pub nonzero_div-cast_signed : goal.nonzero_div-cast_signed
nonzero_div-cast_signed c =
    can_divide c.args.kind c.args.a c.args.b c.requires.left c.requires.right c.requires.has_quotient
    c.cast_signed.result c.cast_signed-then-kind.result c.if-kind.true c.cast_signed.ensures c.cast_signed-then-kind.ensures

pub nonzero_div-result : goal.nonzero_div-result
nonzero_div-result c = divisor_is_positive c.args.kind c.args.a c.args.b c.requires.left c.requires.right c.requires.has_quotient

pub returns-then-kind : goal.returns-then-kind
returns-then-kind c =
    signed_quotient c.args.kind c.args.a c.args.b c.requires.left c.requires.right c.requires.has_quotient
    c.cast_signed.result c.cast_signed-then-kind.result c.if-kind.true c.cast_signed.ensures c.cast_signed-then-kind.ensures
    c.cast_unsigned.result c.cast_unsigned.ensures

pub returns-else-kind : goal.returns-else-kind
returns-else-kind c =
    unsigned_quotient c.args.kind c.args.a c.args.b c.requires.left c.requires.right c.requires.has_quotient c.if-kind.false
