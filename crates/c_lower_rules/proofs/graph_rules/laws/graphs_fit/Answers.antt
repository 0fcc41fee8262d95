use Rattle.c_lower_rules.proofs.graph_rules.Whole.{graph_fits}
use Rattle.c_lower_rules.proofs.graph_rules.laws.graphs_fit.Goals as goal

pub returns : goal.returns
returns c = graph_fits
