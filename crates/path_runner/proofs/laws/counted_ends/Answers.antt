use Rattle.path_runner.proofs.Records.{ends_counted}
use Rattle.path_runner.proofs.laws.counted_ends.Goals as goal

pub returns : goal.returns
returns c = ends_counted
