use Rattle.c_values.proofs.Consequences as laws
use Rattle.c_values.proofs.laws.values_are_patterns_of_numbers.Goals as goal

pub returns : goal.returns
returns c = laws.values_are_patterns_of_numbers
