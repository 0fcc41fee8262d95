use Rattle.measurer_laws.proofs.covered_laws.Edges.{covered_happens}
use Rattle.measurer_laws.proofs.covered_laws.laws.covered_happens.Goals as goal

pub returns : goal.returns
returns c = covered_happens
