use Rattle.path_runner.proofs.Records.{paths_last}
use Rattle.path_runner.proofs.laws.lasting_paths.Goals as goal

pub returns : goal.returns
returns c = paths_last
