use Rattle.bit_words.proofs.DivisionLemmas.{DivisionSoFar}
use Rattle.bit_words.proofs.long_division.long_division.Given as goal

abbrev pub invariant-loop-j : goal.invariant-loop-j
invariant-loop-j l = DivisionSoFar l.initial.circuit l.circuit l.a l.b l.width l.quotient l.rest l.j
