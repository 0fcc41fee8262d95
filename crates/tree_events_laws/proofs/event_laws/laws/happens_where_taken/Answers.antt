use Rattle.tree_events_laws.proofs.event_laws.Happens.{happens_where_taken}
use Rattle.tree_events_laws.proofs.event_laws.laws.happens_where_taken.Goals as goal

pub returns : goal.returns
returns c = happens_where_taken
