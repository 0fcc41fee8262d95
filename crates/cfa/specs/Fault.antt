-- Why parts make no graph.
use Rattle.cfa.specs.declared.fault.GraphFault.{GraphFault}
use Rattle.cfa.specs.declared.fault.GraphFault.TheVariants.{IllNumbered, IllPart, Memory}
use Rattle.cfa.specs.declared.parts.GraphParts.{GraphParts}
use Rattle.cfa.specs.Graph.{EdgesFit, RestFits, IsFirstIll}

-- an edge that breaks the rules for edges is named, the first of them; another part is at fault only where no edge is
abbrev pub IsFault : GraphParts → GraphFault → Type 0
IsFault parts (IllNumbered edge) = IsFirstIll parts edge
IsFault parts IllPart = EdgesFit parts × ¬ RestFits parts
IsFault parts Memory = Unit {0}
