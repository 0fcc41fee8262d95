use Rattle.c_meaning.proofs.PairLaws.{too_deep_states}
use Rattle.c_meaning.proofs.laws.too_deep_states.Goals as goal

pub returns : goal.returns
returns c = too_deep_states
