use Rattle.measurer_hits.proofs.run_laws.Alike.{alike_longest}
use Rattle.measurer_hits.proofs.run_laws.laws.alike_longest.Goals as goal

pub returns : goal.returns
returns c = alike_longest
