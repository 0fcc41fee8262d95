use Rattle.c_values.proofs.Consequences as laws
use Rattle.c_values.proofs.laws.bits_of_fit.Goals as goal

pub returns : goal.returns
returns c = laws.bits_of_fit
