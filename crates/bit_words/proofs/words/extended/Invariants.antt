use Rattle.bit_words.proofs.Values.{ExtendedSoFar}
use Rattle.bit_words.proofs.words.extended.Given as goal

abbrev pub invariant-loop-i : goal.invariant-loop-i
invariant-loop-i l = ExtendedSoFar l.fn.word l.width l.top l.bits l.i
