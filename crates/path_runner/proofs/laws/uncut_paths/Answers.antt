use Rattle.path_runner.proofs.Records.{paths_uncut}
use Rattle.path_runner.proofs.laws.uncut_paths.Goals as goal

pub returns : goal.returns
returns c = paths_uncut
