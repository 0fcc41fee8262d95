use Rattle.tree_meaning_laws.proofs.tree_laws.Unending.{unending_trees_agree}
use Rattle.tree_meaning_laws.proofs.tree_laws.laws.unending_trees_agree.Goals as goal

pub returns : goal.returns
returns c = unending_trees_agree
