use Rattle.fql_tokens.proofs.OutcomeLaws.{one_list}
use Rattle.fql_tokens.proofs.laws.one_cutting.Goals as goal

pub returns : goal.returns
returns c = one_list
