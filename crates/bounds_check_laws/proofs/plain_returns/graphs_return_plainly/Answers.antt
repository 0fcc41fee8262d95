use Rattle.bounds_check_laws.proofs.plain_returns.Whole.{graphs_return_plainly}
use Rattle.bounds_check_laws.proofs.plain_returns.graphs_return_plainly.Goals as goal

pub returns : goal.returns
returns c = graphs_return_plainly
