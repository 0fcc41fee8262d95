use Rattle.std.proofs.Common.{arith}
use Rattle.unwinder.proofs.input_words.GateLemmas.{alone_at, alone_length}
use Rattle.unwinder.proofs.input_words.ListLemmas.{answers_more, answers_none}
use Rattle.unwinder.proofs.input_words.words.answer_words.Goals as goal

pub loop-number-init : goal.loop-number-init
loop-number-init c = rw c.new-words.ensures (answers_none c.args.circuit.now c.requires.inputs)

pub input_word-requires-clause-inputs : goal.input_word-requires-clause-inputs
input_word-requires-clause-inputs c = alone_at _ _ c.loop-number.invariant.alone

pub input_word-requires-clause-room : goal.input_word-requires-clause-room
input_word-requires-clause-room c = let long = alone_length _ _ c.loop-number.invariant.alone in omega arith

pub loop-number-preserved : goal.loop-number-preserved
loop-number-preserved c = rw c.in_ok-push.ensures.ok (answers_more c.in_ok-input_word.field-0 c.loop-number.invariant c.in_ok-input_word.ensures.gates c.in_ok-input_word.ensures.word)
