use Rattle.c_meaning.proofs.RunLaws.{beginning_states}
use Rattle.c_meaning.proofs.laws.beginning_states.Goals as goal

pub returns : goal.returns
returns c = beginning_states
