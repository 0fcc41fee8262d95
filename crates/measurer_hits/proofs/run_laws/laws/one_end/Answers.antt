use Rattle.measurer_hits.proofs.run_laws.Ends.{one_end}
use Rattle.measurer_hits.proofs.run_laws.laws.one_end.Goals as goal

pub returns : goal.returns
returns c = one_end
