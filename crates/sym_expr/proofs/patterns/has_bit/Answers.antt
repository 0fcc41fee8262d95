use Rattle.sym_expr.proofs.WordLemmas.{bit_test}
use Rattle.sym_expr.proofs.patterns.has_bit.Goals as goal

pub returns : goal.returns
returns c = bit_test c.args.pattern c.args.place
