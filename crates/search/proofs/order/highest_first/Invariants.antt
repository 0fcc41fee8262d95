use Rattle.std.proofs.Common.{◌≡◌, ◌+◌, ◌<◌, ◌≤◌, ℕ, true}
use Rattle.search.specs.Watching.{is_among}
use Rattle.search.proofs.order.highest_first.Given as goal

abbrev pub invariant-loop-place : goal.invariant-loop-place
invariant-loop-place l = (v : ℕ) → 1 ≤ v → v ≤ l.variables → l.variables < v + l.place → is_among v l.heap.items ≡ true
