use Rattle.std.proofs.Common.{◌≡◌, ◌<◌, ◌&&◌, ℕ, Some, length, get_or}
use Rattle.std.specs.Prelude.{slice_get, if◌then◌else◌}
use Rattle.cfa.specs.declared.parts.Edge.{Edge}
use Rattle.filters.specs.Parts.{part_of, is_marked}
use Rattle.filters_paths.proofs.ground.all_uses.Given as goal

abbrev pub invariant-loop-edge : goal.invariant-loop-edge
invariant-loop-edge l = record {
  size : length l.uses.items ≡ l.edge;
  each : (k : ℕ) (e : Edge) → k < l.edge → slice_get l.graph.edges k ≡ Some e → get_or l.uses.items k 0 ≡ (if (part_of l.target).edge k && is_marked l.living e.target then l.bound else 0);
}
