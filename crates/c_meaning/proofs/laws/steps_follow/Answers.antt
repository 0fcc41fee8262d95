use Rattle.c_meaning.proofs.PairLaws.{steps_follow}
use Rattle.c_meaning.proofs.laws.steps_follow.Goals as goal

pub returns : goal.returns
returns c = steps_follow
