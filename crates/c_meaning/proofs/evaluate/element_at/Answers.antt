use Rattle.std.proofs.Common.{arith}
use Rattle.c_meaning.proofs.Elements.{array_within, element_inside, element_outside}
use Rattle.c_meaning.proofs.evaluate.element_at.Goals as goal

pub overflow_add-result : goal.overflow_add-result
overflow_add-result c =
    let within = array_within c.args.store.now c.args.array c.args.count c.requires.room c.requires.array in
    omega (arith, within, c.array_start.ensures, c.requires.room.few)

pub returns-in-Ok : goal.returns-in-Ok
returns-in-Ok c =
    rw c.in-Ok.is (element_inside c.args.store.now.cells c.args.store.now.frame c.args.array c.args.count c.in-Ok.index c.array_start.result c.args.kind c.ranges.count.fits (rw c.in-Ok.is at c.requires.index) c.if-index-count.true c.array_start.ensures)

pub returns-in-Ok-2 : goal.returns-in-Ok-2
returns-in-Ok-2 c =
    rw c.in-Ok.is (element_outside c.args.store.now.cells c.args.store.now.frame c.args.array c.args.count c.in-Ok.index c.args.kind c.ranges.count.fits (rw c.in-Ok.is at c.requires.index) c.if-index-count.false)
