use Rattle.measurer_laws.proofs.covered_laws.Edges.{same_events}
use Rattle.measurer_laws.proofs.covered_laws.laws.same_events.Goals as goal

pub returns : goal.returns
returns c = same_events
