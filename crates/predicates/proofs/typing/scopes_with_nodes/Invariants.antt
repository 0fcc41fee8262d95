use Rattle.std.proofs.Common.{length, take}
use Rattle.predicates.specs.Typing.{IsTableOf}
use Rattle.predicates.proofs.typing.scopes_with_nodes.Given as goal

abbrev pub invariant-loop-node : goal.invariant-loop-node
invariant-loop-node l = IsTableOf (take l.node-index l.nodes) (length l.graph.scopes) l.table.items
