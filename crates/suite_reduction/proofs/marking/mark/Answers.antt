use Rattle.std.proofs.Common.{◌<◌, arith, get_or, length, length-set}
use Rattle.std.proofs.lemmas.Option.{slice_get-get_or}
use Rattle.suite_reduction.proofs.MarksLaws.{goal_in_range, marked_more}
use Rattle.suite_reduction.proofs.marking.mark.Goals as goal

pub loop-goal-preserved : goal.loop-goal-preserved
loop-goal-preserved c =
    let range = goal_in_range _ _ c.loop-goal.goal-index c.requires c.loop-goal-test.true in
    let room : get_or c.args.goals.now c.loop-goal.goal-index 0 < length c.loop-goal.firsts =
    omega (arith, range, c.loop-goal.invariant.same_length) in
    record {
      same_length = rw length-set c.loop-goal.invariant.same_length;
      so_far =
          rw c.first_by.ensures (marked_more _ _ _ _ _ _ c.loop-goal-test.true room c.loop-goal.invariant.so_far
          (slice_get-get_or _ _ _ room));
    }
