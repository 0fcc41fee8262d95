use Rattle.std.proofs.Common.{◌≡◌, Some, take}
use Rattle.std.specs.Prelude.{slice_get}
use Rattle.cfa.specs.Contexts.{Pair}
use Rattle.unwinder_reach.specs.reached.Placing.{ArePlaces}
use Rattle.unwinder_reach.specs.reached.Searching.{AreStepsAlong}
use Rattle.unwinder_reach.proofs.reached.steps.steps_along.Given as goal

abbrev pub invariant-loop-at : goal.invariant-loop-at
invariant-loop-at l =
    ArePlaces l.graph l.bounds l.table l.places × ((p : Pair) → slice_get l.places.pairs.items l.from ≡ Some p → AreStepsAlong l.graph l.bounds l.places.pairs.items p (take l.at-index l.ways) l.steps)
