use Rattle.c_values.proofs.Bits.{IsValue-bit_or}
use Rattle.c_values.proofs.bitwise.or.Goals as goal

pub returns-clause-of_kind : goal.returns-clause-of_kind
returns-clause-of_kind c = IsValue-bit_or c.args.kind c.args.a c.args.b c.requires.left c.requires.right
