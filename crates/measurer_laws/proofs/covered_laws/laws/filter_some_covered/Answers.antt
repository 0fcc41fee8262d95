use Rattle.measurer_laws.proofs.covered_laws.Edges.{filter_some_covered}
use Rattle.measurer_laws.proofs.covered_laws.laws.filter_some_covered.Goals as goal

pub returns : goal.returns
returns c = filter_some_covered
