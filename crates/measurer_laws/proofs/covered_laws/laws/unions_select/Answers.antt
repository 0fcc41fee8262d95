use Rattle.measurer_laws.proofs.covered_laws.Selects.{unions_select}
use Rattle.measurer_laws.proofs.covered_laws.laws.unions_select.Goals as goal

pub returns : goal.returns
returns c = unions_select
