use Rattle.measurer_hits.proofs.run_laws.Leaving.{runs_leave}
use Rattle.measurer_hits.proofs.run_laws.laws.runs_leave.Goals as goal

pub returns : goal.returns
returns c = runs_leave
