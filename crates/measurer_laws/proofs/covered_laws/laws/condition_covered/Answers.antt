use Rattle.measurer_laws.proofs.covered_laws.Goals.{condition_covered}
use Rattle.measurer_laws.proofs.covered_laws.laws.condition_covered.Goals as goal

pub returns : goal.returns
returns c = condition_covered
