use Rattle.std.proofs.Common.{◌^◌}
use Rattle.unwinder.proofs.input_words.GateLemmas.{alone_at}
use Rattle.unwinder.proofs.input_words.ListLemmas.{arguments_more, arguments_none, arguments_room}
use Rattle.unwinder.proofs.input_words.words.argument_words.Goals as goal

pub loop-kind-init : goal.loop-kind-init
loop-kind-init c = rw c.new-words.ensures (arguments_none c.args.parameters.now c.args.circuit.now c.requires.inputs)

pub input_word-requires-clause-inputs : goal.input_word-requires-clause-inputs
input_word-requires-clause-inputs c = alone_at _ _ c.loop-kind.invariant.alone

pub input_word-requires-clause-room : goal.input_word-requires-clause-room
input_word-requires-clause-room c = arguments_room _ (2 ^ 30) c.loop-kind.invariant c.loop-kind-test.true c.requires.room

pub loop-kind-preserved : goal.loop-kind-preserved
loop-kind-preserved c = rw c.in_ok-push.ensures.ok (arguments_more _ c.in_ok-input_word.field-0 c.loop-kind.invariant c.loop-kind-test.true c.in_ok-input_word.ensures.gates c.in_ok-input_word.ensures.word)
