use Rattle.std.proofs.Common.{length}
use Rattle.unwinder.proofs.AgendaLaws.{PutSoFar}
use Rattle.unwinder.proofs.agenda.put_all.Given as goal

abbrev pub invariant-loop-arrival : goal.invariant-loop-arrival
invariant-loop-arrival l = PutSoFar l.initial.agenda.items l.agenda.items l.steps l.fn.onward l.left

abbrev pub decreases-loop-arrival : goal.decreases-loop-arrival
decreases-loop-arrival l = length l.left
