use Rattle.measurer_hits.proofs.run_laws.Alike.{alike_nexts}
use Rattle.measurer_hits.proofs.run_laws.laws.alike_nexts.Goals as goal

pub returns : goal.returns
returns c = alike_nexts
