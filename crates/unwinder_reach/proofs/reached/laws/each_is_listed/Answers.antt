use Rattle.unwinder_reach.proofs.reached.Listed.{each_is_listed}
use Rattle.unwinder_reach.proofs.reached.laws.each_is_listed.Goals as goal

pub returns : goal.returns
returns c = each_is_listed
