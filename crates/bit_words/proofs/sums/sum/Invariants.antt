use Rattle.bit_words.proofs.SumLemmas.{SumSoFar}
use Rattle.bit_words.proofs.sums.sum.Given as goal

abbrev pub invariant-loop-i : goal.invariant-loop-i
invariant-loop-i l = SumSoFar l.initial.circuit l.circuit l.a l.b l.fn.carry l.bits l.carried l.i
