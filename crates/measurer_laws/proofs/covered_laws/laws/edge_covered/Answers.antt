use Rattle.measurer_laws.proofs.covered_laws.Edges.{edge_covered}
use Rattle.measurer_laws.proofs.covered_laws.laws.edge_covered.Goals as goal

pub returns : goal.returns
returns c = edge_covered
