use Rattle.std.proofs.Common.{◌≡◌, ◌+◌, ◌<◌, ℕ, length, get_or, drop}
use Rattle.measurer.specs.Openings.{first_place}
use Rattle.measurer.proofs.openings.first_places.Given as goal

abbrev pub invariant-loop-place : goal.invariant-loop-place
invariant-loop-place l = record {
  room : (k : ℕ) → k < length l.edges → get_or l.edges k 0 < length l.places.items;
  firsts : (edge : ℕ) → get_or l.places.items edge (length l.edges) ≡ l.place + first_place (drop l.place l.edges) edge;
}
