use Rattle.unwinder_reach.proofs.reached_laws.Counts.{one_count}
use Rattle.unwinder_reach.proofs.reached_laws.laws.one_count.Goals as goal

pub returns : goal.returns
returns c = one_count
