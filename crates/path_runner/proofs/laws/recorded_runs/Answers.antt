use Rattle.path_runner.proofs.Records.{runs_recorded}
use Rattle.path_runner.proofs.laws.recorded_runs.Goals as goal

pub returns : goal.returns
returns c = runs_recorded
