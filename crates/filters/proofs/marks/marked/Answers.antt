use Rattle.std.proofs.Common.{arith, ◌∙◌, get_or, length, ◌<◌}
use Rattle.std.proofs.Math.ListN.{length-set}
use Rattle.filters.proofs.MoreMarks.{mark_more, is_member}
use Rattle.filters.proofs.marks.marked.Goals as goal

pub index_mut-requires : goal.index_mut-requires
index_mut-requires c = let h = c.requires _ (is_member c.args.numbers.now c.loop-number.number-index c.loop-number-test.true) in omega (arith, h, c.loop-number.invariant.size, c.loop-number.marks.ok)

pub loop-number-preserved : goal.loop-number-preserved
loop-number-preserved c =
    let h = c.requires _ (is_member c.args.numbers.now c.loop-number.number-index c.loop-number-test.true) in
    let within : get_or c.args.numbers.now c.loop-number.number-index 0 < length c.loop-number.marks.items = omega (arith, h, c.loop-number.invariant.size) in
    record {
      size = length-set c.loop-number.marks.items _ _ ∙ c.loop-number.invariant.size;
      each = mark_more c.args.numbers.now c.loop-number.marks.items c.loop-number.number-index c.loop-number-test.true within c.loop-number.invariant.each;
    }
