use Rattle.std.proofs.Common.{arith}
use Rattle.sym_expr.proofs.PatternLemmas.{one_bit}
use Rattle.sym_expr.proofs.patterns.test_word.Goals as goal

pub returns-clause-value : goal.returns-clause-value
returns-clause-value c = λ gates w. one_bit gates w c.constant-bits.result c.args.test (omega arith) (c.constant-bits.ensures.value gates w)
