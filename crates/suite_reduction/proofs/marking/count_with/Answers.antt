use Rattle.std.proofs.Common.{arith}
use Rattle.suite_reduction.proofs.MarksLaws.{goals_counted}
use Rattle.suite_reduction.proofs.marking.count_with.Goals as goal

pub loop-goal-preserved : goal.loop-goal-preserved
loop-goal-preserved c = record {
  most = c.count_of-most.ensures.most;
  least = omega (arith, c.loop-goal.invariant.least, c.count_of-most.ensures.least);
  goals = goals_counted _ _ _ _ c.loop-goal-test.true c.loop-goal.invariant.goals c.count_of-most.ensures.least c.count_of-most.ensures.goal;
}
