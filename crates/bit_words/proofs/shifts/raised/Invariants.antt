use Rattle.bit_words.proofs.ShiftLemmas.{RaisedSoFar}
use Rattle.bit_words.proofs.shifts.raised.Given as goal

abbrev pub invariant-loop-i : goal.invariant-loop-i
invariant-loop-i l = RaisedSoFar l.word l.by l.bits l.i
