use Rattle.fql_read.proofs.QueryOutcome as laws
use Rattle.fql_read.proofs.laws.one_query.Goals as goal

pub returns : goal.returns
returns c = laws.one_query
