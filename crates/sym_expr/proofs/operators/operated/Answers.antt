use Rattle.std.proofs.Common.{arith}
use Rattle.c_values.specs.Operations.{binary_kind, binary_value}
use Rattle.bit_words.proofs.Steps.{grows_then, grows_within, still}
use Rattle.bit_words.proofs.Values.{kind_of_word, word_later}
use Rattle.sym_expr.proofs.OperatorLemmas.{weight_some, operated_value}
use Rattle.sym_expr.proofs.operators.operated.Goals as goal

pub binary-requires-clause-room : goal.binary-requires-clause-room
binary-requires-clause-room c = omega (arith, weight_some c.args.op c.args.kind (kind_of_word c.requires.left))

pub both-requires-clause-left : goal.both-requires-clause-left
both-requires-clause-left c = still c.binary.ensures.grows c.args.first.now.1 c.requires.left_wire

pub both-requires-clause-right : goal.both-requires-clause-right
both-requires-clause-right c = still c.binary.ensures.grows c.args.second.now.1 c.requires.right_wire

pub both-requires-clause-room : goal.both-requires-clause-room
both-requires-clause-room c = omega (arith, weight_some c.args.op c.args.kind (kind_of_word c.requires.left))

pub both-requires-2-clause-right : goal.both-requires-2-clause-right
both-requires-2-clause-right c = still c.both.ensures.grows c.in_ok-word.named c.in_ok-word.ensures.wire

pub both-requires-2-clause-room : goal.both-requires-2-clause-room
both-requires-2-clause-room c = omega (arith, weight_some c.args.op c.args.kind (kind_of_word c.requires.left))

pub returns-in_err-word-clause-grows : goal.returns-in_err-word-clause-grows
returns-in_err-word-clause-grows c = grows_within _ c.binary.ensures.grows (omega (arith, weight_some c.args.op c.args.kind (kind_of_word c.requires.left)))

pub returns-in_err-operands-clause-grows : goal.returns-in_err-operands-clause-grows
returns-in_err-operands-clause-grows c = grows_within _ (grows_then c.binary.ensures.grows c.both.ensures.grows) (omega (arith, weight_some c.args.op c.args.kind (kind_of_word c.requires.left)))

pub returns-in_err-fine-clause-grows : goal.returns-in_err-fine-clause-grows
returns-in_err-fine-clause-grows c = grows_within _ (grows_then (grows_then c.binary.ensures.grows c.both.ensures.grows) c.both-2.ensures.grows) (omega (arith, weight_some c.args.op c.args.kind (kind_of_word c.requires.left)))

pub returns-clause-grows : goal.returns-clause-grows
returns-clause-grows c = grows_within _ (grows_then (grows_then c.binary.ensures.grows c.both.ensures.grows) c.both-2.ensures.grows) (omega (arith, weight_some c.args.op c.args.kind (kind_of_word c.requires.left)))

pub returns-clause-word : goal.returns-clause-word
returns-clause-word c = word_later (grows_then c.both.ensures.grows c.both-2.ensures.grows) (binary_kind c.args.op c.args.kind) c.in_ok-word.word c.in_ok-word.ensures.word

pub returns-clause-value : goal.returns-clause-value
returns-clause-value c = λ w.
    operated_value c.args.first.now c.args.second.now c.in_ok-word.word c.in_ok-word.named c.in_ok-operands.operands c.in_ok-fine.fine (λ a b. binary_value c.args.op c.args.kind c.args.right a b) w
    c.binary.ensures.grows c.both.ensures.grows c.both-2.ensures.grows c.requires.left_wire c.requires.right_wire c.in_ok-word.ensures.word.wires c.in_ok-word.ensures.wire
    (c.in_ok-word.ensures.value w) (c.in_ok-operands.ensures.value w) (c.in_ok-fine.ensures.value w)
