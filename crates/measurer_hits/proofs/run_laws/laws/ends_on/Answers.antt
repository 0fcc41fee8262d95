use Rattle.measurer_hits.proofs.run_laws.Ends.{ends_on}
use Rattle.measurer_hits.proofs.run_laws.laws.ends_on.Goals as goal

pub returns : goal.returns
returns c = ends_on
