use Rattle.tree_events_laws.proofs.statement_events.StatementTrees.{statements_tell}
use Rattle.tree_events_laws.proofs.statement_events.laws.statements_tell.Goals as goal

pub returns : goal.returns
returns c = statements_tell
