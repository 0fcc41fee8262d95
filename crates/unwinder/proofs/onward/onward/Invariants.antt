use Rattle.unwinder.proofs.WayLaws.{AlongSoFar}
use Rattle.unwinder.proofs.onward.onward.Given as goal

abbrev pub invariant-loop-i : goal.invariant-loop-i
invariant-loop-i l = AlongSoFar l.graph l.initial.circuit l.circuit l.guard l.ways l.behind l.steps l.arrivals l.i
