use Rattle.std.proofs.Common.{◌≡◌, ℕ, Some, length}
use Rattle.std.specs.Prelude.{slice_get}
use Rattle.cfa.specs.Graph.{SeesFit}
use Rattle.cfa.proofs.Eaches.{EachBelow}
use Rattle.cfa.proofs.rest.variables_fit.Given as goal

abbrev pub invariant-loop-node : goal.invariant-loop-node
invariant-loop-node l = record {
  seen : EachBelow l.parts.nodes l.node-index (λ i n. SeesFit l.parts n.function n.scope);
  long : length l.tested.items ≡ length l.parts.scopes;
  known : (scope function : ℕ) → slice_get l.tested.items scope ≡ Some (Some function) → SeesFit l.parts function scope;
}
