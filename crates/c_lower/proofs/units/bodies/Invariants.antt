use Rattle.std.proofs.Common.{◌≡◌, drop}
use Rattle.c_lower_rules.specs.graph_of.Builder.{in_order, after}
use Rattle.c_lower_rules.specs.graph_of.GraphOf.{bodies_from}
use Rattle.c_lower.proofs.units.bodies.Given as goal

abbrev pub invariant-loop-i : goal.invariant-loop-i
invariant-loop-i l = after (in_order (bodies_from l.globals 0 l.functions)) l.initial.parts ≡ after (in_order (bodies_from l.globals l.i (drop l.i l.functions))) l.parts
