use Rattle.measurer_hits.proofs.run_laws.Traces.{records_along}
use Rattle.measurer_hits.proofs.run_laws.laws.records_along.Goals as goal

pub returns : goal.returns
returns c = records_along
