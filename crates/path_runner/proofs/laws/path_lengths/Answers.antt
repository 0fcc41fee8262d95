use Rattle.path_runner.proofs.Lengths.{lengths}
use Rattle.path_runner.proofs.laws.path_lengths.Goals as goal

pub returns : goal.returns
returns c = lengths
