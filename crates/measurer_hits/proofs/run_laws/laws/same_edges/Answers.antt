use Rattle.measurer_hits.proofs.run_laws.Alike.{same_edges}
use Rattle.measurer_hits.proofs.run_laws.laws.same_edges.Goals as goal

pub returns : goal.returns
returns c = same_edges
