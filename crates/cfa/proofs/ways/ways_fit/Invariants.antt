use Rattle.cfa.specs.Graph.{IsExit, Continues, edges_from}
use Rattle.cfa.proofs.Eaches.{EachBelow}
use Rattle.cfa.proofs.ways.ways_fit.Given as goal

abbrev pub invariant-loop-i : goal.invariant-loop-i
invariant-loop-i l = EachBelow l.parts.nodes l.i (λ i n. ¬ IsExit l.parts i → Continues (edges_from l.parts i))
