use Rattle.cnf.proofs.ChecksLaws.{no_model}
use Rattle.cnf.proofs.laws.checked_formulas_have_no_model.Goals as goal

pub returns : goal.returns
returns c = no_model
