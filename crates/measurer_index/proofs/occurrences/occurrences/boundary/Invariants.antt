use Rattle.std.proofs.Common.{◌-◌, ◌≤◌, ◌<◌}
use Rattle.std.specs.Prelude.{slice_index}
use Rattle.measurer_index.specs.occurrences.Places.{IsAfterPart}
use Rattle.measurer_index.proofs.occurrences.occurrences.boundary.Given as goal

abbrev pub invariant-loop-low : goal.invariant-loop-low
invariant-loop-low l = record {
  after : l.begin ≤ l.low;
  forward : l.low ≤ l.high;
  within : l.high ≤ l.end;
  below : IsAfterPart l.places l.begin l.low l.start;
  here : l.high < l.end → l.start ≤ slice_index l.places l.high;
}

abbrev pub decreases-loop-low : goal.decreases-loop-low
decreases-loop-low l = l.high - l.low
