-- Parts that have too many edges.
use Rattle.std.proofs.Common.{◌≡◌, ◌+◌, [], ◌∷◌, length, length-append, arith}
use Rattle.cfa.specs.declared.parts.Edge.{Edge}
use Rattle.c_lower_rules.specs.declared.graph_of.parts.Parts.{Parts}
use Rattle.c_lower_rules.specs.graph_of.Builder.{Builder, edge, after}
use Rattle.c_lower_rules.proofs.graph_of.After.{grows}
use Rattle.c_lower.specs.declared.stop.Stop.{Stop}
use Rattle.c_lower.specs.declared.stop.Stop.TheVariants.{TooManyEdges, Memory}
use Rattle.c_lower.specs.Stopping.{IsStop}

pub edge-length : (x : Edge) (m : Parts) → length (after (edge x) m).edges ≡ length m.edges + 1
unfolding after
edge-length x m = length-append m.edges (x ∷ [])

-- what is made behind too many edges has too many
pub stop_grows : (s : Stop) (b : Builder) (m : Parts) → IsStop s m → IsStop s (after b m)
stop_grows TooManyEdges b m h = omega (arith, grows b m)
stop_grows Memory b m h = tt

pub ruleset stops = (edge-length, stop_grows)

pub memory_stops : (s : Stop) (m : Parts) → s ≡ Memory → IsStop s m
memory_stops TooManyEdges m e = absurd (cc)
memory_stops Memory m e = tt

pub ruleset stopping = (stop_grows, memory_stops)
