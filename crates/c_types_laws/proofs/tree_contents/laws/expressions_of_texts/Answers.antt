use Rattle.c_types_laws.proofs.tree_contents.Texts.{expressions_of_texts}
use Rattle.c_types_laws.proofs.tree_contents.laws.expressions_of_texts.Goals as goal

pub returns : goal.returns
returns c = expressions_of_texts
