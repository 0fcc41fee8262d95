use Rattle.measurer_laws.proofs.covered_laws.Goals.{guard_covered}
use Rattle.measurer_laws.proofs.covered_laws.laws.guard_covered.Goals as goal

pub returns : goal.returns
returns c = guard_covered
