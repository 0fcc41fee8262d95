use Rattle.c_values.proofs.Consequences as laws
use Rattle.c_values.proofs.laws.numbers_have_patterns.Goals as goal

pub returns : goal.returns
returns c = laws.numbers_have_patterns
