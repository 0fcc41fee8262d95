use Rattle.std.proofs.Common.{◌≡◌, take}
use Rattle.c_lower_rules.specs.graph_of.GraphOf.{functions_from}
use Rattle.c_lower.proofs.units.functions_of.Given as goal

abbrev pub invariant-loop-i : goal.invariant-loop-i
invariant-loop-i l = l.all ≡ functions_from 0 (take l.i l.functions)
