use Rattle.std.proofs.Common.{◌-◌, ◌≤◌, length}
use Rattle.search.specs.Readings.{IsSearching}
use Rattle.search.proofs.reading.propagate.Given as goal

abbrev pub invariant-loop-watching : goal.invariant-loop-watching
invariant-loop-watching l = record {
  searching : IsSearching l.formula l.budget l.machine l.watching;
  more : length l.initial.machine.moves.items ≤ length l.machine.moves.items;
}

abbrev pub decreases-loop-watching : goal.decreases-loop-watching
decreases-loop-watching l = l.formula.variables - l.watching.head
