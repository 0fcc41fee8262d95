use Rattle.std.proofs.Common.{◌≡◌, ◌<◌, ◌&&◌, ℕ, length, get_or, false}
use Rattle.filters.specs.Parts.{part_of}
use Rattle.filters_paths.proofs.borders.nodes_in_part.Given as goal

abbrev pub invariant-loop-n : goal.invariant-loop-n
invariant-loop-n l = record {
  size : length l.kept.items ≡ l.n;
  each : (k : ℕ) → k < l.n → get_or l.kept.items k false ≡ ((part_of l.target).node k && get_or l.marks k false);
}
