use Rattle.std.proofs.Common.{◌∙◌, ap, sym, subst, Some}
use Rattle.std.specs.Int.{int_shr}
use Rattle.c_values.specs.Kind.{IsValue, number_of}
use Rattle.c_values.proofs.Fitting.{IsValue-wrapped}
use Rattle.c_values.proofs.Sums.{kind_of}
use Rattle.c_values.proofs.Quotients.{right_shift_of-some, right_shift_of-none, number_of-shift}
use Rattle.c_values.proofs.shifts.shr.Goals as goal

pub is_shift_amount-requires-clause-shifted : goal.is_shift_amount-requires-clause-shifted
is_shift_amount-requires-clause-shifted c = kind_of c.args.kind c.args.a c.requires.left

pub returns-then-is_shift_amount-clause-value : goal.returns-then-is_shift_amount-clause-value
returns-then-is_shift_amount-clause-value c =
    ap Some c.shifted_down.ensures
    ∙ right_shift_of-some c.args.kind c.args.a c.args.amount_kind c.args.amount (sym c.if-is_shift_amount.ensures.value)

pub returns-then-is_shift_amount-clause-of_kind : goal.returns-then-is_shift_amount-clause-of_kind
returns-then-is_shift_amount-clause-of_kind c =
    subst (IsValue c.args.kind) (sym c.shifted_down.ensures)
    (IsValue-wrapped c.args.kind (int_shr (number_of c.args.kind c.args.a) c.args.amount) (kind_of c.args.kind c.args.a c.requires.left))

pub returns-then-is_shift_amount-clause-number : goal.returns-then-is_shift_amount-clause-number
returns-then-is_shift_amount-clause-number c =
    ap (number_of c.args.kind) c.shifted_down.ensures
    ∙ number_of-shift c.args.kind c.args.a c.requires.left c.args.amount

pub returns-else-is_shift_amount-clause-value : goal.returns-else-is_shift_amount-clause-value
returns-else-is_shift_amount-clause-value c =
    right_shift_of-none c.args.kind c.args.a c.args.amount_kind c.args.amount (sym c.if-is_shift_amount.ensures.value)
