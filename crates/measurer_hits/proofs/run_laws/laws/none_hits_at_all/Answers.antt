use Rattle.measurer_hits.proofs.run_laws.Leaving.{none_hits_at_all}
use Rattle.measurer_hits.proofs.run_laws.laws.none_hits_at_all.Goals as goal

pub returns : goal.returns
returns c = none_hits_at_all
