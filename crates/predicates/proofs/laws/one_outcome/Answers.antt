use Rattle.predicates.proofs.OneOutcome as laws
use Rattle.predicates.proofs.laws.one_outcome.Goals as goal

pub returns : goal.returns
returns c = laws.one_outcome c.one_tree.ensures
