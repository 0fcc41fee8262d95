use Rattle.std.proofs.Common.{◌∙◌}
use Rattle.suite_reduction.proofs.MarksLaws.{lists_counted}
use Rattle.suite_reduction.proofs.marking.goal_count.Goals as goal

pub loop-goals-preserved : goal.loop-goals-preserved
loop-goals-preserved c = record {
  most = c.count_with-count.ensures.most;
  goals =
      lists_counted _ _ _ _ _ c.loop-goals-test.true c.loop-goals.invariant.goals c.count_with-count.ensures.least
      (rw (c.as_slice.ensures ∙ c.goals-item.is) at c.count_with-count.ensures.goals);
}
