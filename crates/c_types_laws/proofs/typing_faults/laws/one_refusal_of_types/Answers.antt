use Rattle.c_types_laws.proofs.typing_faults.Firsts.{one_refusal}
use Rattle.c_types_laws.proofs.typing_faults.laws.one_refusal_of_types.Goals as goal

pub returns : goal.returns
returns c = one_refusal
