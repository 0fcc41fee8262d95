use Rattle.c_meaning.proofs.Longest.{runs_within}
use Rattle.c_meaning.proofs.laws.runs_within.Goals as goal

pub returns : goal.returns
returns c = runs_within
