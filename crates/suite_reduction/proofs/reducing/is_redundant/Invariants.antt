use Rattle.std.proofs.Common.{◌≡◌, true, take}
use Rattle.std.specs.List.{list_all}
use Rattle.suite_reduction.specs.Marks.{is_elsewhere}
use Rattle.suite_reduction.proofs.reducing.is_redundant.Given as goal

abbrev pub invariant-loop-goal : goal.invariant-loop-goal
invariant-loop-goal l = list_all (is_elsewhere l.number l.firsts l.later) (take l.goal-index l.goals) ≡ true
