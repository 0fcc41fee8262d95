use Rattle.measurer_hits.proofs.run_laws.Fitting.{equal_modulo}
use Rattle.measurer_hits.proofs.run_laws.laws.equal_modulo.Goals as goal

pub returns : goal.returns
returns c = equal_modulo
