use Rattle.std.proofs.Common.{◌≡◌, ◌-◌, ◌≤◌, length}
use Rattle.search.specs.Readings.{IsVisiting}
use Rattle.search.specs.Watching.{watchers_of}
use Rattle.search.proofs.reading.read_literal.Given as goal

abbrev pub invariant-loop-at : goal.invariant-loop-at
invariant-loop-at l = record {
  visiting : IsVisiting l.formula l.budget l.machine l.watching l.falsified l.at;
  head : l.watching.head ≡ l.initial.watching.head;
  more : length l.initial.machine.moves.items ≤ length l.machine.moves.items;
}

abbrev pub decreases-loop-at : goal.decreases-loop-at
decreases-loop-at l = length (watchers_of l.watching.watchers.items l.falsified) - l.at
