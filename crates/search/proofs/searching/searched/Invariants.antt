use Rattle.std.proofs.Common.{◌≤◌, length}
use Rattle.search.specs.Readings.{IsSearching}
use Rattle.search.proofs.searching.searched.Given as goal

abbrev pub invariant-loop : goal.invariant-loop
invariant-loop l = record {
  searching : IsSearching l.formula l.budget l.machine l.watching;
  count : l.counter ≤ length l.machine.moves.items;
}
