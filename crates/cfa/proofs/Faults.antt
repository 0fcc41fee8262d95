-- What is never a fault of parts that make a graph.
use Rattle.std.proofs.Common.{◌≡◌, refl, ⊎_elim, arith}
use Rattle.std.proofs.lemmas.Option.{slice_get_cases}
use Rattle.cfa.specs.declared.fault.GraphFault.{GraphFault}
use Rattle.cfa.specs.declared.fault.GraphFault.TheVariants.{IllNumbered, IllPart, Memory}
use Rattle.cfa.specs.declared.parts.GraphParts.{GraphParts}
use Rattle.cfa.specs.Fault.{IsFault}
use Rattle.cfa.specs.Graph.{IsGraph}

-- parts that make a graph are refused for want of memory alone
pub memory_alone : (parts : GraphParts) (fault : GraphFault) → IsGraph parts → IsFault parts fault → fault ≡ Memory
memory_alone parts (IllNumbered at) graph ill =
    ⊎_elim (λ here. absurd (ill.ill here.0 here.2 (graph.edges at here.0 here.2)))
    (λ past. absurd (omega (arith, past.0, ill.within)))
    (slice_get_cases parts.edges at).1
memory_alone parts IllPart graph ill = absurd (ill.1 graph.rest)
memory_alone parts Memory graph ill = refl
