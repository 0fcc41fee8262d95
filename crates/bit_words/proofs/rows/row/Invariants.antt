use Rattle.bit_words.proofs.RowLemmas.{RowSoFar}
use Rattle.bit_words.proofs.rows.row.Given as goal

abbrev pub invariant-loop-i : goal.invariant-loop-i
invariant-loop-i l = RowSoFar l.initial.circuit l.circuit l.operation l.a l.b l.bits l.i
