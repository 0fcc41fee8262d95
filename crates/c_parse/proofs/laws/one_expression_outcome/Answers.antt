use Rattle.c_parse.proofs.OneOutcome.{one_expression_outcome}
use Rattle.c_parse.proofs.laws.one_expression_outcome.Goals as goal

pub returns : goal.returns
returns c = one_expression_outcome
