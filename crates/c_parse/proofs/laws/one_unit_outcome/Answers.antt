use Rattle.c_parse.proofs.OneOutcome.{one_unit_outcome}
use Rattle.c_parse.proofs.laws.one_unit_outcome.Goals as goal

pub returns : goal.returns
returns c = one_unit_outcome
