use Rattle.measurer_laws.proofs.covered_laws.Selects.{kinds_select}
use Rattle.measurer_laws.proofs.covered_laws.laws.kinds_select.Goals as goal

pub returns : goal.returns
returns c = kinds_select
