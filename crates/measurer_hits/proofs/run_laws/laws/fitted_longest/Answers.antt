use Rattle.measurer_hits.proofs.run_laws.Taken.{fitted_longest}
use Rattle.measurer_hits.proofs.run_laws.laws.fitted_longest.Goals as goal

pub returns : goal.returns
returns c = fitted_longest
