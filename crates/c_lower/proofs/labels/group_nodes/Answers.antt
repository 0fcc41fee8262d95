use Rattle.c_lower.proofs.LabelLaws.{group_nodes_turn}
use Rattle.c_lower.proofs.labels.group_nodes.Goals as goal

pub loop-group-preserved : goal.loop-group-preserved
loop-group-preserved c =
    group_nodes_turn c.args.around.now c.args.groups.now c.loop-group._group-index c._group-item.result c.args.parts.now c.loop-group.parts c.new_node.new.parts c.loop-group-test.true c._group-item.is c.loop-group.invariant c.in_ok-new_node.ensures.made
