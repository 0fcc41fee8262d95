use Rattle.measurer_laws.proofs.covered_laws.Selects.{intersections_select}
use Rattle.measurer_laws.proofs.covered_laws.laws.intersections_select.Goals as goal

pub returns : goal.returns
returns c = intersections_select
