use Rattle.c_lower_rules.proofs.graph_of.Whole.{graph_once}
use Rattle.c_lower_rules.proofs.graph_of.laws.graphs_are_once.Goals as goal

pub returns : goal.returns
returns c = graph_once
