use Rattle.std.proofs.Common.{◌≡◌, ◌<◌, ◌&&◌, length, get_or, ℕ, false}
use Rattle.filters.specs.Kept.{is_node_of}
use Rattle.filters.proofs.properties.nodes_of.Given as goal

abbrev pub invariant-loop-k : goal.invariant-loop-k
invariant-loop-k l = record {
  size : length l.marks.items ≡ l.k;
  each : (k : ℕ) → k < l.k → get_or l.marks.items k false ≡ (get_or l.nodes k false && is_node_of l.graph l.name k);
}
