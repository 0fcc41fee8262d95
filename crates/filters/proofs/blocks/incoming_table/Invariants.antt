use Rattle.std.proofs.Common.{◌≡◌, ◌<◌, ◌==◌, length, get_or, take, ℕ}
use Rattle.std.specs.List.{filter}
use Rattle.cfa.specs.declared.parts.Edge.{Edge}
use Rattle.filters.specs.declared.blocks.Incoming.TheVariants.{Nothing}
use Rattle.filters.specs.Incoming.{incoming_of, SourceBelow}
use Rattle.filters.proofs.blocks.incoming_table.Given as goal

abbrev pub invariant-loop-edge : goal.invariant-loop-edge
invariant-loop-edge l = record {
  size : length l.table.items ≡ length l.graph.nodes;
  below : (n : ℕ) → SourceBelow (length l.graph.nodes) (get_or l.table.items n Nothing);
  each : (n : ℕ) → n < length l.graph.nodes → get_or l.table.items n Nothing ≡ incoming_of (filter (λ (e : Edge). e.target == n) (take l.edge l.graph.edges));
}
