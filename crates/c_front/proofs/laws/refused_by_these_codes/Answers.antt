use Rattle.c_front.proofs.CodeLaws.{told}
use Rattle.c_front.proofs.laws.refused_by_these_codes.Goals as goal

pub returns : goal.returns
returns c = told c.faults_of_texts.ensures
