use Rattle.std.specs.Prelude.{IsTrue}
use Rattle.cfa.specs.Graph.{IsExit, is_return}
use Rattle.cfa.proofs.Eaches.{EachBelow}
use Rattle.cfa.proofs.rest.returns_fit.Given as goal

abbrev pub invariant-loop-edge : goal.invariant-loop-edge
invariant-loop-edge l = EachBelow l.parts.edges l.edge-index (λ i e. IsExit l.parts e.source → IsTrue (is_return e.operation))
