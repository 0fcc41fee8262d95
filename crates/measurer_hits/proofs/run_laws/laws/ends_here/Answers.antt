use Rattle.measurer_hits.proofs.run_laws.Ends.{ends_here}
use Rattle.measurer_hits.proofs.run_laws.laws.ends_here.Goals as goal

pub returns : goal.returns
returns c = ends_here
