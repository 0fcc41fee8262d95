use Rattle.predicates.proofs.ReadTexts.{read_once}
use Rattle.predicates.proofs.laws.one_tree.Goals as goal

pub returns : goal.returns
returns c = read_once c.one_reading.ensures.one c.one_reading.ensures.some c.one_expression_outcome.ensures
