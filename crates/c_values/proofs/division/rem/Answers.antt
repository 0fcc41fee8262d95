use Rattle.std.proofs.Common.{◌∙◌, ap, sym, subst, Some}
use Rattle.std.specs.Prelude.{int_rem}
use Rattle.c_values.specs.Kind.{IsValue, number_of}
use Rattle.c_values.proofs.Fitting.{IsValue-wrapped}
use Rattle.c_values.proofs.Sums.{kind_of}
use Rattle.c_values.proofs.Quotients.{remainder_of-some, remainder_of-none, number_of-remainder}
use Rattle.c_values.proofs.division.rem.Goals as goal

pub returns-then-has_quotient-clause-value : goal.returns-then-has_quotient-clause-value
returns-then-has_quotient-clause-value c =
    ap Some c.remainder.ensures
    ∙ remainder_of-some c.args.kind c.args.a c.args.b c.requires.left c.requires.right (sym c.if-has_quotient.ensures.value)

pub returns-then-has_quotient-clause-of_kind : goal.returns-then-has_quotient-clause-of_kind
returns-then-has_quotient-clause-of_kind c =
    subst (IsValue c.args.kind) (sym c.remainder.ensures)
    (IsValue-wrapped c.args.kind (int_rem (number_of c.args.kind c.args.a) (number_of c.args.kind c.args.b))
    (kind_of c.args.kind c.args.a c.requires.left))

pub returns-then-has_quotient-clause-number : goal.returns-then-has_quotient-clause-number
returns-then-has_quotient-clause-number c =
    ap (number_of c.args.kind) c.remainder.ensures
    ∙ number_of-remainder c.args.kind c.args.a c.args.b c.requires.left c.requires.right (sym c.if-has_quotient.ensures.value)

pub returns-else-has_quotient-clause-value : goal.returns-else-has_quotient-clause-value
returns-else-has_quotient-clause-value c = remainder_of-none c.args.kind c.args.a c.args.b (sym c.if-has_quotient.ensures.value)
