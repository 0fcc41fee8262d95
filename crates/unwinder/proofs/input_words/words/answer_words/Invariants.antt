use Rattle.std.proofs.Common.{length}
use Rattle.unwinder.proofs.input_words.ListLemmas.{AnswersSoFar}
use Rattle.unwinder.proofs.input_words.words.answer_words.Given as goal

abbrev pub invariant-loop-number : goal.invariant-loop-number
invariant-loop-number l = AnswersSoFar (length l.initial.circuit) l.circuit l.words l._number
