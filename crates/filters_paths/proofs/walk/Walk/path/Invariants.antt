use Rattle.std.proofs.Common.{◌≡◌, take}
use Rattle.filters_paths.specs.Walking.{edges_of}
use Rattle.filters_paths.proofs.walk.Walk.path.Given as goal

abbrev pub invariant-loop-step : goal.invariant-loop-step
invariant-loop-step l = l.edges ≡ edges_of (take l.step-index l.step-items)
