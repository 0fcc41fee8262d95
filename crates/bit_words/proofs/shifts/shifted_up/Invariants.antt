use Rattle.bit_words.proofs.StageLemmas.{UpSoFar}
use Rattle.bit_words.proofs.shifts.shifted_up.Given as goal

abbrev pub invariant-loop-i : goal.invariant-loop-i
invariant-loop-i l = UpSoFar l.initial.circuit l.circuit l.a l.amount l.width l.bits l.i
