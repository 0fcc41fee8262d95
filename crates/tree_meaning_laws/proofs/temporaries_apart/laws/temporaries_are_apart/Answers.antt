use Rattle.tree_meaning_laws.proofs.temporaries_apart.Units.{unit_apart}
use Rattle.tree_meaning_laws.proofs.temporaries_apart.laws.temporaries_are_apart.Goals as goal

pub returns : goal.returns
returns c = unit_apart
