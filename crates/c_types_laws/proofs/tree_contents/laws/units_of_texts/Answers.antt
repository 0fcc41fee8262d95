use Rattle.c_types_laws.proofs.tree_contents.Texts.{units_of_texts}
use Rattle.c_types_laws.proofs.tree_contents.laws.units_of_texts.Goals as goal

pub returns : goal.returns
returns c = units_of_texts
