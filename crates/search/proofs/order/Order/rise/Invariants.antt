use Rattle.std.proofs.Common.{◌≡◌, ◌<◌, ℕ, length}
use Rattle.search.specs.Watching.{is_among}
use Rattle.search.proofs.order.Order.rise.Given as goal

abbrev pub invariant-loop-at : goal.invariant-loop-at
invariant-loop-at l = record {
  inside : l.at < length l.self.heap.items;
  members : (v : ℕ) → is_among v l.self.heap.items ≡ is_among v l.initial.self.heap.items;
}

abbrev pub decreases-loop-at : goal.decreases-loop-at
decreases-loop-at l = l.at
