use Rattle.bounds_check_laws.proofs.tree_ending_laws.Units.{unit_turns_above_edges}
use Rattle.bounds_check_laws.proofs.tree_ending_laws.unit_turns_above_edges.Goals as goal

pub returns : goal.returns
returns c = unit_turns_above_edges
