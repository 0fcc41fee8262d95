use Rattle.c_meaning.proofs.PairLaws.{blocked_states}
use Rattle.c_meaning.proofs.laws.blocked_states.Goals as goal

pub returns : goal.returns
returns c = blocked_states
