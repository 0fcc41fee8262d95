use Rattle.cfa.proofs.Indexes.{indexes_of_elements}
use Rattle.cfa.proofs.laws.indexes_of_elements.Goals as goal

pub returns : goal.returns
returns c = indexes_of_elements
