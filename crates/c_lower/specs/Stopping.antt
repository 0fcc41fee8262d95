-- Why lowering stops.
use Rattle.std.specs.Prelude.{◌<◌, length}
use Rattle.cfa.specs.declared.parts.GraphParts.{GraphParts}
use Rattle.c_lower_rules.specs.declared.graph_of.parts.Parts.{Parts}
use Rattle.c_lower.specs.declared.stop.Stop.{Stop}
use Rattle.c_lower.specs.declared.stop.Stop.TheVariants.{TooManyEdges, Memory}

-- too many edges are told of parts that have more than 40,000
abbrev pub IsStop : Stop → Parts → Type 0
IsStop TooManyEdges m = 40000 < length m.edges
IsStop Memory m = Unit {0}

-- the same of a graph's parts
abbrev pub IsTold : Stop → GraphParts → Type 0
IsTold TooManyEdges parts = 40000 < length parts.edges
IsTold Memory parts = Unit {0}
