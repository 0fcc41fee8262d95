use Rattle.measurer_laws.proofs.covered_laws.Selects.{calls_select}
use Rattle.measurer_laws.proofs.covered_laws.laws.calls_select.Goals as goal

pub returns : goal.returns
returns c = calls_select
