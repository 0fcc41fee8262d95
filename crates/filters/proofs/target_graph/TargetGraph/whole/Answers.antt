use Rattle.std.proofs.Common.{◌∙◌, ap, length}
use Rattle.filters.proofs.TargetLaws.{within_by, whole_is}
use Rattle.filters.proofs.target_graph.TargetGraph.whole.Goals as goal

pub returns-clause-part : goal.returns-clause-part
returns-clause-part c = c.in_ok-target.ensures ∙ whole_is c.args.graph.now (record { nodes = c.in_ok-nodes.nodes; edges = c.in_ok-edges.edges }) _ _ c.nodes.ensures c.edges.ensures c.in_ok-nodes.ensures.each c.in_ok-edges.ensures.each

pub returns-clause-within : goal.returns-clause-within
returns-clause-within c = within_by c.args.graph.now (record { nodes = c.in_ok-nodes.nodes; edges = c.in_ok-edges.edges }) c.in_ok-target.target
    (record { nodes = c.in_ok-nodes.ensures.size ∙ ap length c.nodes.ensures; edges = c.in_ok-edges.ensures.size ∙ ap length c.edges.ensures }) c.in_ok-target.ensures
