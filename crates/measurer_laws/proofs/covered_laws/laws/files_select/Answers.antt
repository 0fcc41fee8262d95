use Rattle.measurer_laws.proofs.covered_laws.Selects.{files_select}
use Rattle.measurer_laws.proofs.covered_laws.laws.files_select.Goals as goal

pub returns : goal.returns
returns c = files_select
