use Rattle.tree_meaning_laws.proofs.statement_laws.StatementTrees.{statements_do}
use Rattle.tree_meaning_laws.proofs.statement_laws.laws.statements_do.Goals as goal

pub returns : goal.returns
returns c = statements_do
