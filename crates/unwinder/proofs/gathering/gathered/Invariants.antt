use Rattle.unwinder.proofs.Meetings.{GatheredSoFar}
use Rattle.unwinder.proofs.gathering.gathered.Given as goal

abbrev pub invariant-loop-arrival : goal.invariant-loop-arrival
invariant-loop-arrival l = GatheredSoFar l.graph l.entry l.pair l.initial.circuit l.circuit l.row l.met l.arrival-index
