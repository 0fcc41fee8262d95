use Rattle.std.proofs.Common.{◌≡◌, ◌+◌, ◌++◌, map, drop}
use Rattle.c_lower_rules.specs.graph_of.Switch.{cases_from}
use Rattle.c_lower_rules.specs.graph_of.Table.{group_of}
use Rattle.c_lower.specs.Cases.{case_of}
use Rattle.c_lower.proofs.labels.cases_from.Given as goal

abbrev pub invariant-loop-i : goal.invariant-loop-i
invariant-loop-i l = cases_from l.g (map group_of l.groups) ≡ map case_of l.cases ++ cases_from (l.g + l.i) (map group_of (drop l.i l.groups))
