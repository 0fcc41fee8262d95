use Rattle.measurer_laws.proofs.covered_laws.Selects.{decisions_select}
use Rattle.measurer_laws.proofs.covered_laws.laws.decisions_select.Goals as goal

pub returns : goal.returns
returns c = decisions_select
