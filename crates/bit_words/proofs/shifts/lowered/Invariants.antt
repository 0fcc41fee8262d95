use Rattle.bit_words.proofs.ShiftLemmas.{LoweredSoFar}
use Rattle.bit_words.proofs.shifts.lowered.Given as goal

abbrev pub invariant-loop-i : goal.invariant-loop-i
invariant-loop-i l = LoweredSoFar l.word l.by l.kind.signed l.bits l.i
