use Rattle.test_words.proofs.FreeWords.{FreeSoFar}
use Rattle.test_words.proofs.inputs.free_word.Given as goal

abbrev pub invariant-loop-i : goal.invariant-loop-i
invariant-loop-i l = FreeSoFar l.initial.circuit l.circuit l.bits l.i
