use Rattle.c_values.proofs.Consequences as laws
use Rattle.c_values.proofs.laws.conversion_keeps_numbers_in_range.Goals as goal

pub returns : goal.returns
returns c = laws.conversion_keeps_numbers_in_range
