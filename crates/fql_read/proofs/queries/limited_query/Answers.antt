use Rattle.fql_read.proofs.QueryOutcome.{spelled_outcome, fault_outcome}
use Rattle.fql_read.proofs.queries.limited_query.Goals as goal

pub returns-in-Ok : goal.returns-in-Ok
returns-in-Ok c = spelled_outcome c.args.text.now c.args.tokens.now c.in-Ok.query c.limited.result c.in-Ok.ensures c.limited.ensures

pub returns-in-Err : goal.returns-in-Err
returns-in-Err c = fault_outcome c.args.text.now c.args.tokens.now c.in-Err.fault c.in-Err.ensures
