use Rattle.std.proofs.Common.{◌∙◌, ap, sym}
use Rattle.std.specs.Prelude.{not}
use Rattle.c_values.specs.Operations.{is_zero_divisor, is_overflow_divisor, has_quotient, HasNoQuotient}
use Rattle.c_values.proofs.Quotients.{no_quotient-tells, told_false, clear_quotient}
use Rattle.c_values.proofs.division.has_quotient.Goals as goal

pub returns-then-not-is_zero_divisor-clause-number : goal.returns-then-not-is_zero_divisor-clause-number
returns-then-not-is_zero_divisor-clause-number c =
    told_false (HasNoQuotient c.args.kind c.args.a c.args.b) _ (has_quotient c.args.kind c.args.a c.args.b)
    (ap not c.is_overflow_divisor.ensures.value
    ∙ clear_quotient (is_zero_divisor c.args.kind c.args.b) (is_overflow_divisor c.args.kind c.args.a c.args.b)
    (sym c.if-not-is_zero_divisor.ensures.value))
    (no_quotient-tells c.args.kind c.args.a c.args.b)
