use Rattle.std.proofs.Common.{arith}
use Rattle.bit_words.proofs.Steps.{grows_then, grows_within}
use Rattle.sym_expr.proofs.patterns.and_bit.Goals as goal

pub returns-clause-grows : goal.returns-clause-grows
returns-clause-grows c = grows_within 2 (grows_then c.matched.ensures.grows c.both.ensures.grows) (omega arith)

pub returns-in_err-all-clause-grows : goal.returns-in_err-all-clause-grows
returns-in_err-all-clause-grows c = grows_within 2 (grows_then c.matched.ensures.grows c.both.ensures.grows) (omega arith)
