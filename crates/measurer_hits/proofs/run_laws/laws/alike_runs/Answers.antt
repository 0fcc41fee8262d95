use Rattle.measurer_hits.proofs.run_laws.Alike.{alike_runs}
use Rattle.measurer_hits.proofs.run_laws.laws.alike_runs.Goals as goal

pub returns : goal.returns
returns c = alike_runs
