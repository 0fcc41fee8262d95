use Rattle.c_meaning.proofs.PairLaws.{returned_states}
use Rattle.c_meaning.proofs.laws.returned_states.Goals as goal

pub returns : goal.returns
returns c = returned_states
