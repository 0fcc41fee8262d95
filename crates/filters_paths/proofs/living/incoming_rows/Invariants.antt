use Rattle.std.proofs.Common.{◌≡◌, ◌<◌, ℕ, true, Some, Contains, length}
use Rattle.std.specs.Prelude.{slice_get}
use Rattle.cfa.specs.declared.parts.Edge.{Edge}
use Rattle.filters.specs.Parts.{part_of}
use Rattle.filters_paths.specs.Spreading.{row_at}
use Rattle.filters_paths.proofs.living.incoming_rows.Given as goal

abbrev pub invariant-loop-edge : goal.invariant-loop-edge
invariant-loop-edge l = record {
  size : length l.rows.items ≡ length l.graph.nodes;
  within : (n k : ℕ) → Contains (row_at l.rows.items n) k → k < length l.graph.edges;
  each : (k : ℕ) (e : Edge) → k < l.edge → slice_get l.graph.edges k ≡ Some e → (part_of l.target).edge k ≡ true → Contains (row_at l.rows.items e.target) k;
}
