use Rattle.std.proofs.Common.{◌≡◌, ℕ, ℤ, true, take}
use Rattle.std.specs.Int.RustNames.{unsigned_abs}
use Rattle.search.specs.Machine.{is_true}
use Rattle.search.specs.Watching.{is_among}
use Rattle.search.proofs.machine.list_entries.Given as goal

abbrev pub invariant-loop-entry : goal.invariant-loop-entry
invariant-loop-entry l = record {
  keeps : (v : ℕ) → is_among v l.fn.order.heap.items ≡ true → is_among v l.order.heap.items ≡ true;
  listed : (x : ℤ) → is_true (take l.entry-index l.entries) x ≡ true → is_among (unsigned_abs x) l.order.heap.items ≡ true;
}
