use Rattle.c_meaning.proofs.Longest.{longest_by_ends}
use Rattle.c_meaning.proofs.laws.longest_by_their_ends.Goals as goal

pub returns : goal.returns
returns c = longest_by_ends
