use Rattle.unwinder_reach.proofs.reached_laws.Sizes.{one_size}
use Rattle.unwinder_reach.proofs.reached_laws.laws.one_size.Goals as goal

pub returns : goal.returns
returns c = one_size
