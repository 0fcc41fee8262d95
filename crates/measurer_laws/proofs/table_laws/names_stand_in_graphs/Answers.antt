use Rattle.measurer_laws.proofs.table_laws.Whole.{names_stand_in_graphs}
use Rattle.measurer_laws.proofs.table_laws.names_stand_in_graphs.Goals as goal

pub returns : goal.returns
returns c = names_stand_in_graphs
