use Rattle.std.proofs.Common.{arith}
use Rattle.bit_words.proofs.Steps.{grows_then, grows_within}
use Rattle.bit_words.proofs.Digits.{all_still}
use Rattle.sym_expr.proofs.ElementLemmas.{selected_none, selected_more, cells_still}
use Rattle.sym_expr.proofs.elements.selection.Goals as goal

pub loop-k-init : goal.loop-k-init
loop-k-init c = selected_none c.args.circuit.now c.args.elements.now c.args.index.now c.constant.result (c.constant.ensures.wires c.args.circuit.now)

pub loop-k-preserved : goal.loop-k-preserved
loop-k-preserved c = selected_more c.in_ok-next.next _ c.loop-k.invariant c.with_element.ensures.grows (omega arith) c.requires.elements c.requires.index c.in_ok-next.ensures.wires.0 c.in_ok-next.ensures.wires.1 c.in_ok-next.ensures.value

pub returns-in_err-next-clause-grows : goal.returns-in_err-next-clause-grows
returns-in_err-next-clause-grows c = grows_within _ (grows_then c.loop-k.invariant.grows c.with_element.ensures.grows) (omega arith)

pub with_element-requires-clause-index : goal.with_element-requires-clause-index
with_element-requires-clause-index c = all_still c.loop-k.invariant.grows c.args.index.now c.requires.index

pub with_element-requires-clause-element : goal.with_element-requires-clause-element
with_element-requires-clause-element c = cells_still c.loop-k.invariant.grows c.args.elements.now c.requires.elements c.loop-k.k _ (omega arith)
