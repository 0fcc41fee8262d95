use Rattle.c_values.proofs.Consequences as laws
use Rattle.c_values.proofs.laws.common_kinds.Goals as goal

pub returns : goal.returns
returns c = laws.common_kinds
