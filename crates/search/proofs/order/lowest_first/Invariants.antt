use Rattle.std.proofs.Common.{◌≡◌, ◌≤◌, ℕ, true}
use Rattle.search.specs.Watching.{is_among}
use Rattle.search.proofs.order.lowest_first.Given as goal

abbrev pub invariant-loop-variable : goal.invariant-loop-variable
invariant-loop-variable l = (v : ℕ) → 1 ≤ v → v ≤ l.variable → is_among v l.heap.items ≡ true
