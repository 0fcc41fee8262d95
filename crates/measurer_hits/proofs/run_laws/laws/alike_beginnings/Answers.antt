use Rattle.measurer_hits.proofs.run_laws.Alike.{alike_beginnings}
use Rattle.measurer_hits.proofs.run_laws.laws.alike_beginnings.Goals as goal

pub returns : goal.returns
returns c = alike_beginnings
