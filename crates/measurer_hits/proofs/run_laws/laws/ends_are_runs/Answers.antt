use Rattle.measurer_hits.proofs.run_laws.Ends.{ends_are_runs}
use Rattle.measurer_hits.proofs.run_laws.laws.ends_are_runs.Goals as goal

pub returns : goal.returns
returns c = ends_are_runs
