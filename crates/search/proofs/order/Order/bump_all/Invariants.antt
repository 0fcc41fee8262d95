use Rattle.std.proofs.Common.{◌≡◌, ℕ}
use Rattle.search.specs.Watching.{is_among}
use Rattle.search.proofs.order.Order.bump_all.Given as goal

abbrev pub invariant-loop-literal : goal.invariant-loop-literal
invariant-loop-literal l = (v : ℕ) → is_among v l.self.heap.items ≡ is_among v l.initial.self.heap.items
