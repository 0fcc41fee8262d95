use Rattle.std.proofs.Common.{length}
use Rattle.unwinder.proofs.input_words.GateLemmas.{FreshSoFar}
use Rattle.unwinder.proofs.input_words.words.fresh_bits.Given as goal

abbrev pub invariant-loop-i : goal.invariant-loop-i
invariant-loop-i l = FreshSoFar (length l.initial.circuit) l.circuit l.bits l.i
