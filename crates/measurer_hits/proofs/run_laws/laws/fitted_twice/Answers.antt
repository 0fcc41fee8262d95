use Rattle.measurer_hits.proofs.run_laws.Fitting.{fitted_twice}
use Rattle.measurer_hits.proofs.run_laws.laws.fitted_twice.Goals as goal

pub returns : goal.returns
returns c = fitted_twice
