use Rattle.std.proofs.Common.{◌≡◌, ◌-◌, ◌<◌, ℕ, length}
use Rattle.search.specs.Watching.{is_among}
use Rattle.search.proofs.order.Order.sink.Given as goal

abbrev pub invariant-loop-child : goal.invariant-loop-child
invariant-loop-child l = record {
  inside : l.at < length l.self.heap.items;
  members : (v : ℕ) → is_among v l.self.heap.items ≡ is_among v l.initial.self.heap.items;
  length : length l.self.heap.items ≡ length l.initial.self.heap.items;
}

abbrev pub decreases-loop-child : goal.decreases-loop-child
decreases-loop-child l = length l.self.heap.items - l.at
