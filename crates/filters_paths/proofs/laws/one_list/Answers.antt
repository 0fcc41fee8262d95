use Rattle.filters_paths.proofs.Ordered.{one_list}
use Rattle.filters_paths.proofs.laws.one_list.Goals as goal

pub returns : goal.returns
returns c = one_list
