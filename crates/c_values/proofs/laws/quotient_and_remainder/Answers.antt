use Rattle.c_values.proofs.Consequences as laws
use Rattle.c_values.proofs.laws.quotient_and_remainder.Goals as goal

pub returns : goal.returns
returns c = laws.quotient_and_remainder
