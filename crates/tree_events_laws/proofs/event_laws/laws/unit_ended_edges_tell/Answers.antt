use Rattle.tree_events_laws.proofs.event_laws.Units.{unit_ended_edges_tell}
use Rattle.tree_events_laws.proofs.event_laws.laws.unit_ended_edges_tell.Goals as goal

pub returns : goal.returns
returns c = unit_ended_edges_tell
