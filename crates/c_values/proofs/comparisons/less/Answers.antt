use Rattle.std.specs.Prelude.{◌<ℤ◌}
use Rattle.c_values.specs.Kind.{number_of}
use Rattle.c_values.specs.Operations.{is_less}
use Rattle.c_values.proofs.Machine.{signed_less, unsigned_less, is_less-tells, told}
use Rattle.c_values.proofs.comparisons.less.Goals as goal

pub returns-then-kind-clause-value : goal.returns-then-kind-clause-value
returns-then-kind-clause-value c =
    signed_less c.args.kind c.args.a c.args.b c.cast_signed.result c.cast_signed-then-kind.result c.if-kind.true
    c.ranges.a.fits c.ranges.b.fits c.cast_signed.ensures c.cast_signed-then-kind.ensures

pub returns-then-kind-clause-number : goal.returns-then-kind-clause-number
returns-then-kind-clause-number c =
    told (number_of c.args.kind c.args.a <ℤ number_of c.args.kind c.args.b) _ (is_less c.args.kind c.args.a c.args.b)
    (returns-then-kind-clause-value c) (is_less-tells c.args.kind c.args.a c.args.b)

pub returns-else-kind-clause-value : goal.returns-else-kind-clause-value
returns-else-kind-clause-value c = unsigned_less c.args.kind c.args.a c.args.b c.if-kind.false

pub returns-else-kind-clause-number : goal.returns-else-kind-clause-number
returns-else-kind-clause-number c =
    told (number_of c.args.kind c.args.a <ℤ number_of c.args.kind c.args.b) _ (is_less c.args.kind c.args.a c.args.b)
    (returns-else-kind-clause-value c) (is_less-tells c.args.kind c.args.a c.args.b)
