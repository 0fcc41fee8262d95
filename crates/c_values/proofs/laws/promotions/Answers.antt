use Rattle.c_values.proofs.Consequences as laws
use Rattle.c_values.proofs.laws.promotions.Goals as goal

pub returns : goal.returns
returns c = laws.promotions
