use Rattle.measurer_hits.proofs.run_laws.Taken.{taken_within}
use Rattle.measurer_hits.proofs.run_laws.laws.taken_within.Goals as goal

pub returns : goal.returns
returns c = taken_within
