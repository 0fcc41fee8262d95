use Rattle.std.proofs.Common.{◌≡◌, ◌+◌, map, drop}
use Rattle.c_lower_rules.specs.graph_of.Switch.{default_from}
use Rattle.c_lower_rules.specs.graph_of.Table.{group_of}
use Rattle.c_lower.proofs.labels.default_from.Given as goal

abbrev pub invariant-loop-i : goal.invariant-loop-i
invariant-loop-i l = default_from l.g (map group_of l.groups) l.z ≡ default_from (l.g + l.i) (map group_of (drop l.i l.groups)) l.z
