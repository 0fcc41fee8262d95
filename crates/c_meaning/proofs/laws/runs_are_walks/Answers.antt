use Rattle.c_meaning.proofs.PairLaws.{runs_walk}
use Rattle.c_meaning.proofs.laws.runs_are_walks.Goals as goal

pub returns : goal.returns
returns c = runs_walk
