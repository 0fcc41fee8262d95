use Rattle.measurer_hits.proofs.run_laws.Alike.{same_ends}
use Rattle.measurer_hits.proofs.run_laws.laws.same_ends.Goals as goal

pub returns : goal.returns
returns c = same_ends
