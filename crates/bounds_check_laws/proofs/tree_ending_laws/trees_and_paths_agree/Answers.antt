use Rattle.bounds_check_laws.proofs.tree_ending_laws.Units.{trees_and_paths_agree}
use Rattle.bounds_check_laws.proofs.tree_ending_laws.trees_and_paths_agree.Goals as goal

pub returns : goal.returns
returns c = trees_and_paths_agree
