use Rattle.std.proofs.Common.{◌≡◌, map, take}
use Rattle.c_lower_rules.specs.graph_of.Builder.{after}
use Rattle.c_lower_rules.specs.graph_of.Switch.{group_nodes}
use Rattle.c_lower_rules.specs.graph_of.Table.{group_of}
use Rattle.c_lower.proofs.labels.group_nodes.Given as goal

abbrev pub invariant-loop-group : goal.invariant-loop-group
invariant-loop-group l = l.parts ≡ after (group_nodes l.around (map group_of (take l._group-index l.groups))) l.initial.parts
