use Rattle.bounds_check_laws.proofs.tree_ending_laws.Units.{staying_trees_end}
use Rattle.bounds_check_laws.proofs.tree_ending_laws.staying_trees_end.Goals as goal

pub returns : goal.returns
returns c = staying_trees_end
