use Rattle.measurer_hits.proofs.run_laws.Traces.{paths_along}
use Rattle.measurer_hits.proofs.run_laws.laws.paths_along.Goals as goal

pub returns : goal.returns
returns c = paths_along
