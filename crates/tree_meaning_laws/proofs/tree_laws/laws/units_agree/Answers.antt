use Rattle.tree_meaning_laws.proofs.tree_laws.Units.{units_agree}
use Rattle.tree_meaning_laws.proofs.tree_laws.laws.units_agree.Goals as goal

pub returns : goal.returns
returns c = units_agree
