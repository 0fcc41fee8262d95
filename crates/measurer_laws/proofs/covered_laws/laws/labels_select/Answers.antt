use Rattle.measurer_laws.proofs.covered_laws.Names.{labels_select}
use Rattle.measurer_laws.proofs.covered_laws.laws.labels_select.Goals as goal

pub returns : goal.returns
returns c = labels_select
