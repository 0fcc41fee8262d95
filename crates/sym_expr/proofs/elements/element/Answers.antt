use Rattle.std.proofs.Common.{length, Some, pos, arith}
use Rattle.std.specs.Prelude.{slice_index}
use Rattle.c_values.specs.Kind.{wrapped}
use Rattle.bit_words.proofs.Steps.{grows_none, grows_then, grows_within, still}
use Rattle.bit_words.proofs.Digits.{all_still}
use Rattle.sym_expr.specs.Stores.{cells_in, outcome_in}
use Rattle.sym_expr.proofs.ElementLemmas.{element_room, zero_is_word, none_selected, element_value}
use Rattle.sym_expr.proofs.elements.element.Goals as goal

pub returns-then-count-eq0-clause-grows : goal.returns-then-count-eq0-clause-grows
returns-then-count-eq0-clause-grows c = grows_none c.args.circuit.now _

pub returns-then-count-eq0-clause-word : goal.returns-then-count-eq0-clause-word
returns-then-count-eq0-clause-word c = zero_is_word c.args.circuit.now c.constant.result c.args.kind c.requires.kind (c.constant.ensures.wires c.args.circuit.now) (c.constant.ensures.value c.args.circuit.now)

pub returns-then-count-eq0-clause-value : goal.returns-then-count-eq0-clause-value
returns-then-count-eq0-clause-value c = λ w. none_selected c.args.circuit.now w c.constant.result (length c.args.elements.now) (λ i. Some (wrapped c.args.kind (pos (slice_index (cells_in c.args.circuit.now c.args.elements.now w) i)))) (outcome_in c.args.circuit.now c.args.index.now w) (omega arith)

pub selection-requires-clause-room : goal.selection-requires-clause-room
selection-requires-clause-room c = omega (arith, element_room c.args.kind (length c.args.elements.now) c.requires.kind (omega arith))

pub both-requires-clause-left : goal.both-requires-clause-left
both-requires-clause-left c = still c.selection.ensures.grows c.args.index.now.1 c.requires.wire

pub both-requires-clause-room : goal.both-requires-clause-room
both-requires-clause-room c = omega (arith, element_room c.args.kind (length c.args.elements.now) c.requires.kind (omega arith))

pub returns-in_err-word-clause-grows : goal.returns-in_err-word-clause-grows
returns-in_err-word-clause-grows c = grows_within _ c.selection.ensures.grows (omega (arith, element_room c.args.kind (length c.args.elements.now) c.requires.kind (omega arith)))

pub returns-in_err-fine-clause-grows : goal.returns-in_err-fine-clause-grows
returns-in_err-fine-clause-grows c = grows_within _ (grows_then c.selection.ensures.grows c.both.ensures.grows) (element_room c.args.kind (length c.args.elements.now) c.requires.kind (omega arith))

pub returns-clause-grows : goal.returns-clause-grows
returns-clause-grows c = grows_within _ (grows_then c.selection.ensures.grows c.both.ensures.grows) (element_room c.args.kind (length c.args.elements.now) c.requires.kind (omega arith))

pub returns-clause-word : goal.returns-clause-word
returns-clause-word c = c.extended.ensures.word c.both.new.circuit (all_still c.both.ensures.grows c.in_ok-word.word c.in_ok-word.ensures.wires.0)

pub returns-clause-value : goal.returns-clause-value
returns-clause-value c = λ w.
    element_value c.args.kind c.args.elements.now c.args.index.now c.in_ok-word.word c.extended.result c.in_ok-word.named c.in_ok-fine.fine w c.selection.ensures.grows c.both.ensures.grows
    c.requires.wire c.in_ok-word.ensures.wires.0 (c.in_ok-word.ensures.value w) (c.in_ok-fine.ensures.value w)
    (c.extended.ensures.value c.both.new.circuit w)
