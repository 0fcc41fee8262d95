use Rattle.c_values.proofs.Consequences as laws
use Rattle.c_values.proofs.laws.common_is_symmetric.Goals as goal

pub returns : goal.returns
returns c = laws.common_is_symmetric
