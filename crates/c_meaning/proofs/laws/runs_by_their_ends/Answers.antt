use Rattle.c_meaning.proofs.RunLaws.{runs_by_ends}
use Rattle.c_meaning.proofs.laws.runs_by_their_ends.Goals as goal

pub returns : goal.returns
returns c = runs_by_ends
