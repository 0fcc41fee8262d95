use Rattle.tree_meaning_laws.proofs.tree_laws.Law.{trees_agree}
use Rattle.tree_meaning_laws.proofs.tree_laws.laws.trees_agree.Goals as goal

pub returns : goal.returns
returns c = trees_agree
