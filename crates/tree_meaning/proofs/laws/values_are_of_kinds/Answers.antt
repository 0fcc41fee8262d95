use Rattle.tree_meaning.proofs.ValueKinds.{values_are_of_kinds}
use Rattle.tree_meaning.proofs.laws.values_are_of_kinds.Goals as goal

pub returns : goal.returns
returns c = values_are_of_kinds
