use Rattle.std.proofs.Common.{◌≡◌, ◌==◌, ◌&&◌, ◌||◌, not, ℕ, length, get_or, false}
use Rattle.cfa.specs.declared.parts.Edge.{Edge}
use Rattle.filters.specs.Parts.{edge_has, some_below, part_of}
use Rattle.filters_paths.specs.Borders.{outside_node}
use Rattle.filters_paths.proofs.borders.mark_outside.Given as goal

abbrev pub invariant-loop-edge : goal.invariant-loop-edge
invariant-loop-edge l = record {
  size : length l.marks.items ≡ length l.graph.nodes;
  each : (n : ℕ) → get_or l.marks.items n false ≡ (get_or l.initial.marks.items n false || some_below (λ k. not ((part_of l.target).edge k) && edge_has l.graph (λ (e : Edge). outside_node l.border e == n) k) l.edge);
}
