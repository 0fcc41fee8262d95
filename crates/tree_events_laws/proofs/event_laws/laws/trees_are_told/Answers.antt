use Rattle.tree_events_laws.proofs.event_laws.Law.{trees_are_told}
use Rattle.tree_events_laws.proofs.event_laws.laws.trees_are_told.Goals as goal

pub returns : goal.returns
returns c = trees_are_told
