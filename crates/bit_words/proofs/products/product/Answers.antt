use Rattle.std.proofs.Common.{◌*◌, arith}
use Rattle.bit_words.proofs.Digits.{all_still}
use Rattle.bit_words.proofs.Steps.{grows_then, grows_within}
use Rattle.bit_words.proofs.ProductLemmas.{product_room, product_none, product_more}
use Rattle.bit_words.proofs.products.product.Goals as goal

pub loop-i-init : goal.loop-i-init
loop-i-init c = product_none c.args.circuit.now c.args.a.now c.args.b.now c.args.width c.blank-bits.result (omega arith) (c.blank-bits.ensures.wires c.args.circuit.now) (c.blank-bits.ensures.bits c.args.circuit.now)

pub row-requires-clause-room : goal.row-requires-clause-room
row-requires-clause-room c = omega (arith, product_room c.loop-i.i c.args.width (omega arith))

pub returns-in_err-part-clause-grows : goal.returns-in_err-part-clause-grows
returns-in_err-part-clause-grows c = grows_within (13 * (c.args.width * c.args.width)) (grows_then c.loop-i.invariant.grows c.row.ensures.grows) (omega (arith, product_room c.loop-i.i c.args.width (omega arith)))

pub sum-requires-clause-room : goal.sum-requires-clause-room
sum-requires-clause-room c = omega (arith, product_room c.loop-i.i c.args.width (omega arith))

pub returns-in_err-next-clause-grows : goal.returns-in_err-next-clause-grows
returns-in_err-next-clause-grows c = grows_within (13 * (c.args.width * c.args.width)) (grows_then c.loop-i.invariant.grows (grows_then c.row.ensures.grows c.sum.ensures.grows)) (omega (arith, product_room c.loop-i.i c.args.width (omega arith)))

pub loop-i-preserved : goal.loop-i-preserved
loop-i-preserved c =
    product_more c.raised-moved.result c.in_ok-part.part c.in_ok-next.next c.in_ok-next.field-0-1 _ c.loop-i.invariant c.row.ensures.grows c.sum.ensures.grows (omega arith) c.requires.width (omega arith) c.requires.left c.requires.right (omega arith)
    c.in_ok-part.ensures.wires c.in_ok-next.ensures.wires.0 (c.raised-moved.ensures.low c.loop-i.circuit) (c.raised-moved.ensures.high c.loop-i.circuit) c.in_ok-part.ensures.bits c.in_ok-next.ensures.value

pub row-requires-clause-left : goal.row-requires-clause-left
row-requires-clause-left c = c.raised-moved.ensures.wires c.loop-i.circuit (all_still c.loop-i.invariant.grows c.args.a.now c.requires.left)

pub row-requires-clause-right : goal.row-requires-clause-right
row-requires-clause-right c = c.raised-moved.ensures.wires c.loop-i.circuit (all_still c.loop-i.invariant.grows c.args.a.now c.requires.left)
