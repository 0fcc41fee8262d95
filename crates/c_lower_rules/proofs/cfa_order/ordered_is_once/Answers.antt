use Rattle.c_lower_rules.proofs.cfa_order.Once.{once}
use Rattle.c_lower_rules.proofs.cfa_order.ordered_is_once.Goals as goal

pub returns : goal.returns
returns c = once c.args.graph.now c.requires.0 c.well_formed-2.ensures c.requires.1
