use Rattle.measurer_hits.proofs.hits.Absent.{absent_out}
use Rattle.measurer_hits.proofs.hits.laws.absent_elsewhere.Goals as goal

pub returns : goal.returns
returns c = absent_out
