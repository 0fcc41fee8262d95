use Rattle.std.proofs.Common.{◌≡◌, [], ℤ, length}
use Rattle.search.specs.Watching.{watchers_of}
use Rattle.search.proofs.watching.no_watchers.Given as goal

abbrev pub invariant-loop : goal.invariant-loop
invariant-loop l = record {
  count : length l.lists.items ≡ l.counter;
  none : (x : ℤ) → watchers_of l.lists.items x ≡ [];
}
