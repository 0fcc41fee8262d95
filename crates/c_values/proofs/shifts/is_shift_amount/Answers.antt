use Rattle.std.proofs.Common.{◌∙◌, sym}
use Rattle.c_values.specs.Operations.{is_shift_amount, IsShiftAmount}
use Rattle.c_values.proofs.Machine.{told}
use Rattle.c_values.proofs.Quotients.{shift_amount-machine, is_shift_amount-tells, amount_number}
use Rattle.c_values.proofs.shifts.is_shift_amount.Goals as goal

pub returns-clause-value : goal.returns-clause-value
returns-clause-value c =
    shift_amount-machine c.args.kind c.args.amount_kind c.args.amount c.requires.shifted c.ranges.amount.fits

pub returns-clause-number : goal.returns-clause-number
returns-clause-number c =
    told (IsShiftAmount c.args.kind c.args.amount_kind c.args.amount) _ (is_shift_amount c.args.kind c.args.amount_kind c.args.amount)
    (returns-clause-value c)
    (is_shift_amount-tells c.args.kind c.args.amount_kind c.args.amount c.requires.shifted c.ranges.amount.fits)

pub returns-clause-not_negative : goal.returns-clause-not_negative
returns-clause-not_negative c below =
    amount_number c.args.kind c.args.amount_kind c.args.amount c.requires.shifted c.ranges.amount.fits
    (sym (returns-clause-value c) ∙ below)
