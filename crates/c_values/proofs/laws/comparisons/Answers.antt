use Rattle.c_values.proofs.Consequences as laws
use Rattle.c_values.proofs.laws.comparisons.Goals as goal

pub returns : goal.returns
returns c = laws.comparisons
