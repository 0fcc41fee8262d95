use Rattle.c_parse.proofs.Whole.{one_expression}
use Rattle.c_parse.proofs.laws.one_expression.Goals as goal

pub returns : goal.returns
returns c = one_expression
