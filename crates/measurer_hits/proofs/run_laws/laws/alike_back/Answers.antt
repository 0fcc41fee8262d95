use Rattle.measurer_hits.proofs.run_laws.Alike.{alike_back}
use Rattle.measurer_hits.proofs.run_laws.laws.alike_back.Goals as goal

pub returns : goal.returns
returns c = alike_back
