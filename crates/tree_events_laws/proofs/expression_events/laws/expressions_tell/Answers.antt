use Rattle.tree_events_laws.proofs.expression_events.ValueTrees.{expressions_tell}
use Rattle.tree_events_laws.proofs.expression_events.laws.expressions_tell.Goals as goal

pub returns : goal.returns
returns c = expressions_tell
