use Rattle.std.proofs.Common.{◌≡◌, [], map, take}
use Rattle.c_lower_rules.specs.graph_of.GraphOf.{ends_from, outermost}
use Rattle.c_lower.proofs.units.ends.Given as goal

abbrev pub invariant-loop-i : goal.invariant-loop-i
invariant-loop-i l = l.parts ≡ record { nodes = ends_from l.globals 0 (take l.i l.functions); edges = []; scopes = map (outermost l.globals) (take l.i l.functions) }
