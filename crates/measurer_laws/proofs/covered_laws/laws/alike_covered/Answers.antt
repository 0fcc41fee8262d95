use Rattle.measurer_laws.proofs.covered_laws.Edges.{alike_covered}
use Rattle.measurer_laws.proofs.covered_laws.laws.alike_covered.Goals as goal

pub returns : goal.returns
returns c = alike_covered
