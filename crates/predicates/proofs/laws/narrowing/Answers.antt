use Rattle.predicates.proofs.Narrowed as laws
use Rattle.predicates.proofs.laws.narrowing.Goals as goal

pub returns : goal.returns
returns c = laws.narrowing
