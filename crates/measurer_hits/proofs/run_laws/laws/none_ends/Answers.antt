use Rattle.measurer_hits.proofs.run_laws.Leaving.{none_ends}
use Rattle.measurer_hits.proofs.run_laws.laws.none_ends.Goals as goal

pub returns : goal.returns
returns c = none_ends
