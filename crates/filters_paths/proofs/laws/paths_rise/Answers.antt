use Rattle.filters_paths.proofs.Ordered.{paths_rise}
use Rattle.filters_paths.proofs.laws.paths_rise.Goals as goal

pub returns : goal.returns
returns c = paths_rise
