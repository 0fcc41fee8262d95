use Rattle.bit_words.proofs.StageLemmas.{DownSoFar}
use Rattle.bit_words.proofs.shifts.shifted_down.Given as goal

abbrev pub invariant-loop-i : goal.invariant-loop-i
invariant-loop-i l = DownSoFar l.initial.circuit l.circuit l.kind l.a l.amount l.word l.i
