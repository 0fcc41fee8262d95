use Rattle.std.proofs.Common.{◌≡◌, ℕ, nat_eq, take, length, get_or}
use Rattle.std.specs.Prelude.{sum_by, filter, vec_len}
use Rattle.cfa.specs.declared.parts.Edge.{Edge}
use Rattle.unwinder_reach.specs.unwinding_size.Capped.{capped}
use Rattle.sym_expr.specs.Weights.{operation_weight}
use Rattle.unwinder_reach.proofs.unwinding_size.operations.node_weights.Given as goal

abbrev pub invariant-loop-edge : goal.invariant-loop-edge
invariant-loop-edge l =
    (vec_len l.table ≡ length l.graph.nodes) × ((k : ℕ) → get_or l.table.items k 0 ≡ capped (sum_by (λ (e : Edge). operation_weight l.graph e.operation) (filter (λ (e : Edge). nat_eq e.source k) (take l.edge-index l.edge-items))))
