use Rattle.std.proofs.Common.{◌≡◌, take, map}
use Rattle.unwinder_reach.specs.declared.reached.step.Step.{Step}
use Rattle.unwinder.proofs.WayLaws.{closed_along}
use Rattle.unwinder.proofs.taking.all_closed.Given as goal

abbrev pub invariant-loop-i : goal.invariant-loop-i
invariant-loop-i l = l.arrivals ≡ map (λ (s : Step). closed_along s.edge) (take l.i l.steps)
