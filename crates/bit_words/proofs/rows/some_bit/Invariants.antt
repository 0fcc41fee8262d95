use Rattle.bit_words.proofs.RowLemmas.{SomeSoFar}
use Rattle.bit_words.proofs.rows.some_bit.Given as goal

abbrev pub invariant-loop-i : goal.invariant-loop-i
invariant-loop-i l = SomeSoFar l.initial.circuit l.circuit l.word l.some l.from l.i
