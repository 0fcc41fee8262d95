use Rattle.c_values.proofs.Bits.{IsValue-bit_and}
use Rattle.c_values.proofs.bitwise.and.Goals as goal

pub returns-clause-of_kind : goal.returns-clause-of_kind
returns-clause-of_kind c = IsValue-bit_and c.args.kind c.args.a c.args.b c.requires.left c.requires.right
