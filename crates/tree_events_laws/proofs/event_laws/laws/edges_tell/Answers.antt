use Rattle.tree_events_laws.proofs.event_laws.Law.{edges_tell}
use Rattle.tree_events_laws.proofs.event_laws.laws.edges_tell.Goals as goal

pub returns : goal.returns
returns c = edges_tell
