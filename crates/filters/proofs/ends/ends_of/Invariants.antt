use Rattle.std.proofs.Common.{◌≡◌, ◌&&◌, length, get_or, ℕ, false}
use Rattle.filters.specs.Parts.{some_below, edge_has, touches}
use Rattle.filters.proofs.ends.ends_of.Given as goal

abbrev pub invariant-loop-k : goal.invariant-loop-k
invariant-loop-k l = record {
  size : length l.marks.items ≡ length l.nodes;
  each : (n : ℕ) → get_or l.marks.items n false ≡ (get_or l.nodes n false && some_below (λ j. get_or l.edges j false && edge_has l.graph (touches n) j) l.k);
}
