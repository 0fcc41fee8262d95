use Rattle.path_runner.proofs.Records.{paths_counted}
use Rattle.path_runner.proofs.laws.counted_paths.Goals as goal

pub returns : goal.returns
returns c = paths_counted
