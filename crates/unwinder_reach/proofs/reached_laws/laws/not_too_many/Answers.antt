use Rattle.unwinder_reach.proofs.reached_laws.Counts.{not_too_many}
use Rattle.unwinder_reach.proofs.reached_laws.laws.not_too_many.Goals as goal

pub returns : goal.returns
returns c = not_too_many
