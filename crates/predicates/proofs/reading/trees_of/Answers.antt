use Rattle.std.proofs.Common.{sym}
use Rattle.predicates.proofs.ReadTexts.{row_more}
use Rattle.predicates.proofs.reading.trees_of.Goals as goal

pub returns-in_default : goal.returns-in_default
returns-in_default c =
    let unread = rw c.in_default.is at c.in_ok-tree.ensures in
    (c.loop-text.text-index, c.text-item.result, c.loop-text-test.true, sym c.text-item.is, rw c.bytes.ensures at unread)

pub loop-text-preserved : goal.loop-text-preserved
loop-text-preserved c =
    let tree = rw c.in-Some.is at c.in_ok-tree.ensures in
    rw c.in_ok-push.ensures.items (
    row_more c.args.texts.now c.loop-text.text-index c.text-item.result c.loop-text.trees.items c.in-Some.tree c.loop-text-test.true c.text-item.is
    c.loop-text.invariant (rw c.bytes.ensures at tree)
    )
