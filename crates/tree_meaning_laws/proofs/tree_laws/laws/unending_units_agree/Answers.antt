use Rattle.tree_meaning_laws.proofs.tree_laws.Units.{unending_units_agree}
use Rattle.tree_meaning_laws.proofs.tree_laws.laws.unending_units_agree.Goals as goal

pub returns : goal.returns
returns c = unending_units_agree
