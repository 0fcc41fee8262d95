use Rattle.c_types_laws.proofs.typing_faults.Units.{lie_in_the_unit}
use Rattle.c_types_laws.proofs.typing_faults.laws.faults_lie_in_the_unit.Goals as goal

pub returns : goal.returns
returns c = lie_in_the_unit
