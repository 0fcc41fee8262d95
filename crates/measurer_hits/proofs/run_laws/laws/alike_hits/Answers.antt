use Rattle.measurer_hits.proofs.run_laws.Alike.{alike_hits}
use Rattle.measurer_hits.proofs.run_laws.laws.alike_hits.Goals as goal

pub returns : goal.returns
returns c = alike_hits
