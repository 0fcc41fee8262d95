use Rattle.c_meaning.proofs.PairLaws.{run_states}
use Rattle.c_meaning.proofs.laws.run_states.Goals as goal

pub returns : goal.returns
returns c = run_states
