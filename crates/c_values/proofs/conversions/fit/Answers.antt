use Rattle.c_values.proofs.Machine.{unsigned_part, signed_part}
use Rattle.c_values.proofs.conversions.fit.Goals as goal

pub returns-then-kind : goal.returns-then-kind
returns-then-kind c = signed_part c.args.kind c.args.bits c.cast_signed.result c.cast_unsigned.result c.requires c.if-kind.true c.ranges.bits.fits c.cast_signed.ensures c.cast_unsigned.ensures

pub returns-else-kind : goal.returns-else-kind
returns-else-kind c = unsigned_part c.args.kind c.args.bits c.requires c.if-kind.false c.ranges.bits.fits
