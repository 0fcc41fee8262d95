use Rattle.c_meaning.proofs.Longest.{one_longest}
use Rattle.c_meaning.proofs.laws.one_longest.Goals as goal

pub returns : goal.returns
returns c = one_longest
