use Rattle.measurer_laws.proofs.covered_laws.Names.{definitions_select}
use Rattle.measurer_laws.proofs.covered_laws.laws.definitions_select.Goals as goal

pub returns : goal.returns
returns c = definitions_select
