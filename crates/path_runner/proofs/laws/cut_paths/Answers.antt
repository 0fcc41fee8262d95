use Rattle.path_runner.proofs.Lengths.{cuts}
use Rattle.path_runner.proofs.laws.cut_paths.Goals as goal

pub returns : goal.returns
returns c = cuts
