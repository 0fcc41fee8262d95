use Rattle.c_values.proofs.Consequences as laws
use Rattle.c_values.proofs.laws.residue_is_a_multiple_away.Goals as goal

pub returns : goal.returns
returns c = laws.residue_is_a_multiple_away
