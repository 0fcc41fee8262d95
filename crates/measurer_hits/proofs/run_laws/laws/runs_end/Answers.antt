use Rattle.measurer_hits.proofs.run_laws.Ends.{runs_end}
use Rattle.measurer_hits.proofs.run_laws.laws.runs_end.Goals as goal

pub returns : goal.returns
returns c = runs_end
