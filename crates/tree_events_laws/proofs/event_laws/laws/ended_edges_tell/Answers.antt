use Rattle.tree_events_laws.proofs.event_laws.Law.{ended_edges_tell}
use Rattle.tree_events_laws.proofs.event_laws.laws.ended_edges_tell.Goals as goal

pub returns : goal.returns
returns c = ended_edges_tell
