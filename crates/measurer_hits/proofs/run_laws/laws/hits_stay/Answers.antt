use Rattle.measurer_hits.proofs.run_laws.Leaving.{hits_stay}
use Rattle.measurer_hits.proofs.run_laws.laws.hits_stay.Goals as goal

pub returns : goal.returns
returns c = hits_stay
