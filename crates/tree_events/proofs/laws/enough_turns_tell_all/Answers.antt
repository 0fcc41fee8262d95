use Rattle.tree_events.proofs.GrowTrees.{enough_turns_tell_all}
use Rattle.tree_events.proofs.laws.enough_turns_tell_all.Goals as goal

pub returns : goal.returns
returns c = enough_turns_tell_all
