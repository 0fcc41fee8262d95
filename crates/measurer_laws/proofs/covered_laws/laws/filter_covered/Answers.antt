use Rattle.measurer_laws.proofs.covered_laws.Goals.{filter_covered}
use Rattle.measurer_laws.proofs.covered_laws.laws.filter_covered.Goals as goal

pub returns : goal.returns
returns c = filter_covered
