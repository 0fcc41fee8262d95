use Rattle.bounds_check_laws.proofs.tree_ending_laws.Trees.{turns_above_edges}
use Rattle.bounds_check_laws.proofs.tree_ending_laws.turns_above_edges.Goals as goal

pub returns : goal.returns
returns c = turns_above_edges
