use Rattle.std.proofs.Common.{◌≡◌}
use Rattle.c_values.specs.Kind.{number_of}
use Rattle.c_values.specs.Operations.{is_equal}
use Rattle.c_values.proofs.Machine.{machine_equal, is_equal-tells, told}
use Rattle.c_values.proofs.comparisons.equal.Goals as goal

pub returns-clause-value : goal.returns-clause-value
returns-clause-value c = machine_equal c.args.kind c.args.a c.args.b c.ranges.a.fits c.ranges.b.fits

pub returns-clause-number : goal.returns-clause-number
returns-clause-number c =
    told (number_of c.args.kind c.args.a ≡ number_of c.args.kind c.args.b) _ (is_equal c.args.kind c.args.a c.args.b)
    (returns-clause-value c) (is_equal-tells c.args.kind c.args.a c.args.b)
