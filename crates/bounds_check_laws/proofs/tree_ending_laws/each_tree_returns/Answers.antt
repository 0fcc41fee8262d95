use Rattle.bounds_check_laws.proofs.tree_ending_laws.Units.{each_tree_returns}
use Rattle.bounds_check_laws.proofs.tree_ending_laws.each_tree_returns.Goals as goal

pub returns : goal.returns
returns c = each_tree_returns
