use Rattle.tree_events_laws.proofs.event_laws.Units.{unit_made}
use Rattle.measurer_laws.proofs.covered_laws.laws.units_are_made.Goals as goal

pub returns : goal.returns
returns c = unit_made
