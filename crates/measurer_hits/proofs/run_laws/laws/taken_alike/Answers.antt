use Rattle.measurer_hits.proofs.run_laws.Taken.{taken_alike}
use Rattle.measurer_hits.proofs.run_laws.laws.taken_alike.Goals as goal

pub returns : goal.returns
returns c = taken_alike
