use Rattle.std.proofs.Common.{arith}
use Rattle.measurer_index.proofs.word_index.Keys.{below_more, above_more}
use Rattle.measurer_index.proofs.word_index.ranges.first_from.Goals as goal

pub loop-from-preserved-then-key_at-key : goal.loop-from-preserved-then-key_at-key
loop-from-preserved-then-key_at-key c =
    let inv = c.loop-from.invariant in
    let a = c.halfway-middle.ensures.from in
    let b = c.halfway-middle.ensures.to in
    let k = c.key_at.ensures in
    let lt = c.if-key_at-key.true in
    record {
      low = omega arith;
      middle = omega arith;
      high = omega arith;
      below = below_more c.args.goals.now c.args.order.now c.args.group.depth c.args.group.low c.args.group.high c.requires.sorted c.args.key c.halfway-middle.result (omega arith) (omega arith) (omega arith);
      above = inv.above;
    }

pub loop-from-preserved : goal.loop-from-preserved
loop-from-preserved c =
    let inv = c.loop-from.invariant in
    let a = c.halfway-middle.ensures.from in
    let b = c.halfway-middle.ensures.to in
    let k = c.key_at.ensures in
    let le = c.if-key_at-key.false in
    record {
      low = omega arith;
      middle = omega arith;
      high = omega arith;
      below = inv.below;
      above = above_more c.args.goals.now c.args.order.now c.args.group.depth c.args.group.low c.args.group.high c.requires.sorted c.args.key c.halfway-middle.result (omega arith) (omega arith) (omega arith);
    }
