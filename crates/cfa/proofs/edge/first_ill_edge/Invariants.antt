use Rattle.cfa.specs.Graph.{EdgeFits}
use Rattle.cfa.proofs.Eaches.{EachBelow}
use Rattle.cfa.proofs.edge.first_ill_edge.Given as goal

abbrev pub invariant-loop-i : goal.invariant-loop-i
invariant-loop-i l = EachBelow l.parts.edges l.i (EdgeFits l.parts)
