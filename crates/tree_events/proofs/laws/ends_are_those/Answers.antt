use Rattle.tree_events.proofs.ErasesTrees.{ends_are_those}
use Rattle.tree_events.proofs.laws.ends_are_those.Goals as goal

pub returns : goal.returns
returns c = ends_are_those
