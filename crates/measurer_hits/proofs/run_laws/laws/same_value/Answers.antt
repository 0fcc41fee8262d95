use Rattle.measurer_hits.proofs.run_laws.Fitting.{same_value}
use Rattle.measurer_hits.proofs.run_laws.laws.same_value.Goals as goal

pub returns : goal.returns
returns c = same_value
