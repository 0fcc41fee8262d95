use Rattle.bounds_check_laws.proofs.tree_ending_laws.Units.{no_tree_traps}
use Rattle.bounds_check_laws.proofs.tree_ending_laws.no_tree_traps.Goals as goal

pub returns : goal.returns
returns c = no_tree_traps
