use Rattle.measurer_hits.proofs.run_laws.Leaving.{runs_stay}
use Rattle.measurer_hits.proofs.run_laws.laws.runs_stay.Goals as goal

pub returns : goal.returns
returns c = runs_stay
