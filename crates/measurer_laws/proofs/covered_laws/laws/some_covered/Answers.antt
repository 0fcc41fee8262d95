use Rattle.measurer_laws.proofs.covered_laws.Edges.{some_covered}
use Rattle.measurer_laws.proofs.covered_laws.laws.some_covered.Goals as goal

pub returns : goal.returns
returns c = some_covered
