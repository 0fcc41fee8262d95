use Rattle.c_types_laws.proofs.typing_faults.Firsts.{of_texts}
use Rattle.c_types_laws.proofs.typing_faults.laws.faults_of_texts.Goals as goal

pub returns : goal.returns
returns c = of_texts
