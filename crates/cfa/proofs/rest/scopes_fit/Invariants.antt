use Rattle.std.specs.Prelude.{length, IsTrue}
use Rattle.cfa.specs.declared.parts.Scope.{Scope}
use Rattle.cfa.specs.Graph.{scope_fits}
use Rattle.cfa.proofs.Eaches.{EachBelow}
use Rattle.cfa.proofs.rest.scopes_fit.Given as goal

abbrev pub invariant-loop-scope : goal.invariant-loop-scope
invariant-loop-scope l = EachBelow l.parts.scopes l.scope-index (λ i (s : Scope). IsTrue (scope_fits (length l.parts.globals) s))
