use Rattle.measurer_laws.proofs.covered_laws.Selects.{lines_select}
use Rattle.measurer_laws.proofs.covered_laws.laws.lines_select.Goals as goal

pub returns : goal.returns
returns c = lines_select
