use Rattle.tree_meaning.proofs.GrowTrees.{turns_suffice}
use Rattle.tree_meaning.proofs.laws.turns_suffice.Goals as goal

pub returns : goal.returns
returns c = turns_suffice
