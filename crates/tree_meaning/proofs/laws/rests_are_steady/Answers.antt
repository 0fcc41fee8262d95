use Rattle.tree_meaning.proofs.Steady.{rests_are_steady}
use Rattle.tree_meaning.proofs.laws.rests_are_steady.Goals as goal

pub returns : goal.returns
returns c = rests_are_steady
