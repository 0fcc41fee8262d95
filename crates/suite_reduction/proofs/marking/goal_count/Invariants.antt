use Rattle.std.proofs.Common.{◌≡◌, ◌≤◌, ◌^◌, true, take}
use Rattle.std.specs.List.{list_all}
use Rattle.suite_reduction.specs.Marks.{are_goals}
use Rattle.suite_reduction.proofs.marking.goal_count.Given as goal

abbrev pub invariant-loop-goals : goal.invariant-loop-goals
invariant-loop-goals l = record {
  most : l.count ≤ 2 ^ 32;
  goals : list_all (are_goals l.count) (take l.goals-index l.hits) ≡ true;
}
