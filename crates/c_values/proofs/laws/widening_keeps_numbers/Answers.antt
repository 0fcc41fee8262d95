use Rattle.c_values.proofs.Consequences as laws
use Rattle.c_values.proofs.laws.widening_keeps_numbers.Goals as goal

pub returns : goal.returns
returns c = laws.widening_keeps_numbers
