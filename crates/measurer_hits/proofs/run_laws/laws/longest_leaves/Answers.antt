use Rattle.measurer_hits.proofs.run_laws.Leaving.{longest_leaves}
use Rattle.measurer_hits.proofs.run_laws.laws.longest_leaves.Goals as goal

pub returns : goal.returns
returns c = longest_leaves
