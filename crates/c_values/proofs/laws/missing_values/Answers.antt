use Rattle.c_values.proofs.Consequences as laws
use Rattle.c_values.proofs.laws.missing_values.Goals as goal

pub returns : goal.returns
returns c = laws.missing_values
