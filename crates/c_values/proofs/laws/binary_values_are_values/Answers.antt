use Rattle.c_values.proofs.Consequences as laws
use Rattle.c_values.proofs.laws.binary_values_are_values.Goals as goal

pub returns : goal.returns
returns c = laws.binary_values_are_values
