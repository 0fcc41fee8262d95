use Rattle.predicates.proofs.GoesWith.{goes_with}
use Rattle.predicates.proofs.laws.predicates_fit.Goals as goal

pub returns : goal.returns
returns c parts texts p graph is = goes_with c.expressions_of_texts.ensures c.scoped_expressions_fit.ensures parts graph texts p is
