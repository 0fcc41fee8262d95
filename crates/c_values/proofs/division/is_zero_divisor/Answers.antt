use Rattle.std.proofs.Common.{◌≡◌, pos}
use Rattle.c_values.specs.Kind.{number_of}
use Rattle.c_values.specs.Operations.{is_zero_divisor}
use Rattle.c_values.proofs.Machine.{told}
use Rattle.c_values.proofs.Quotients.{zero_divisor-machine, is_zero_divisor-tells}
use Rattle.c_values.proofs.division.is_zero_divisor.Goals as goal

pub returns-clause-value : goal.returns-clause-value
returns-clause-value c = zero_divisor-machine c.args.kind c.args.b c.ranges.b.fits

pub returns-clause-number : goal.returns-clause-number
returns-clause-number c =
    told (number_of c.args.kind c.args.b ≡ pos 0) _ (is_zero_divisor c.args.kind c.args.b)
    (returns-clause-value c) (is_zero_divisor-tells c.args.kind c.args.b)
