use Rattle.cfa.specs.Graph.{NodeFits}
use Rattle.cfa.proofs.Eaches.{EachBelow}
use Rattle.cfa.proofs.rest.nodes_fit.Given as goal

abbrev pub invariant-loop-node : goal.invariant-loop-node
invariant-loop-node l = EachBelow l.parts.nodes l.node-index (λ i n. NodeFits l.parts n)
