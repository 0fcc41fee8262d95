use Rattle.std.proofs.Common.{◌≡◌, ◌≤◌, ◌^◌, true, take}
use Rattle.suite_reduction.specs.Marks.{are_goals}
use Rattle.suite_reduction.proofs.marking.count_with.Given as goal

abbrev pub invariant-loop-goal : goal.invariant-loop-goal
invariant-loop-goal l = record {
  most : l.most ≤ 2 ^ 32;
  least : l.count ≤ l.most;
  goals : are_goals l.most (take l.goal-index l.goals) ≡ true;
}
