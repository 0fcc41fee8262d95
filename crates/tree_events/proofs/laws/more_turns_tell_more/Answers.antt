use Rattle.tree_events.proofs.GrowTrees.{more_turns_tell_more}
use Rattle.tree_events.proofs.laws.more_turns_tell_more.Goals as goal

pub returns : goal.returns
returns c = more_turns_tell_more
