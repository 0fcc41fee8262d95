use Rattle.std.proofs.Common.{◌≡◌, ◌<◌, ◌==◌, ℕ, false, length, get_or}
use Rattle.patterns.proofs.places.one_place.Given as goal

abbrev pub invariant-loop-place : goal.invariant-loop-place
invariant-loop-place l = record {
  size : length l.places.items ≡ l.place;
  each : (k : ℕ) → k < l.place → get_or l.places.items k false ≡ (k == l.at);
}
