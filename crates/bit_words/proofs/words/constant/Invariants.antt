use Rattle.bit_words.proofs.Values.{ConstantSoFar}
use Rattle.bit_words.proofs.words.constant.Given as goal

abbrev pub invariant-loop-i : goal.invariant-loop-i
invariant-loop-i l = ConstantSoFar l.value l.bits l.i
