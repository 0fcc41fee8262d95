use Rattle.tree_meaning_laws.proofs.expression_laws.ValueTrees.{expressions_do}
use Rattle.tree_meaning_laws.proofs.expression_laws.laws.expressions_do.Goals as goal

pub returns : goal.returns
returns c = expressions_do
