use Rattle.std.proofs.Common.{◌≡◌, map, drop}
use Rattle.c_lower_rules.specs.graph_of.Builder.{after}
use Rattle.c_lower_rules.specs.graph_of.Expressions.{value_of}
use Rattle.c_lower_rules.specs.graph_of.Statements.{elements_row}
use Rattle.c_lower.proofs.rows.elements.Given as goal

abbrev pub invariant-loop-i : goal.invariant-loop-i
invariant-loop-i l = after (elements_row l.variable 0 (map value_of l.list) l.around l.initial.here l.z) l.initial.parts ≡ after (elements_row l.variable l.i (map value_of (drop l.i l.list)) l.around l.here l.z) l.parts
