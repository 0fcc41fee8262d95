use Rattle.search.proofs.MoveLaws.{moves_on_law}
use Rattle.search.proofs.laws.moves_on.Goals as goal

pub returns : goal.returns
returns c = moves_on_law
