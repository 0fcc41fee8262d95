use Rattle.measurer_laws.proofs.covered_laws.Selects.{conditions_select}
use Rattle.measurer_laws.proofs.covered_laws.laws.conditions_select.Goals as goal

pub returns : goal.returns
returns c = conditions_select
