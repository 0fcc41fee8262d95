use Rattle.measurer_laws.proofs.table_laws.Whole.{graphs_mark_guards}
use Rattle.measurer_laws.proofs.table_laws.graphs_mark_guards.Goals as goal

pub returns : goal.returns
returns c = graphs_mark_guards
