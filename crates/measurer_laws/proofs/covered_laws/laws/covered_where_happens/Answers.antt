use Rattle.measurer_laws.proofs.covered_laws.Covered.{covered_where_happens}
use Rattle.measurer_laws.proofs.covered_laws.laws.covered_where_happens.Goals as goal

pub returns : goal.returns
returns c = covered_where_happens
