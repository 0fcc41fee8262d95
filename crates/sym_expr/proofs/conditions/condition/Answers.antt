use Rattle.std.proofs.Common.{arith}
use Rattle.bit_words.proofs.Steps.{grows_then, grows_within}
use Rattle.sym_expr.proofs.conditions.condition.Goals as goal

pub returns-in_err-truth-clause-grows : goal.returns-in_err-truth-clause-grows
returns-in_err-truth-clause-grows c = grows_within _ (grows_then c.translate.ensures.grows c.nonzero.ensures.grows) (omega arith)

pub returns-clause-grows : goal.returns-clause-grows
returns-clause-grows c = grows_within _ (grows_then c.translate.ensures.grows c.nonzero.ensures.grows) (omega arith)
