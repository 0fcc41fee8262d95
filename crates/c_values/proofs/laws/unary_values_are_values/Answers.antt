use Rattle.c_values.proofs.Consequences as laws
use Rattle.c_values.proofs.laws.unary_values_are_values.Goals as goal

pub returns : goal.returns
returns c = laws.unary_values_are_values
