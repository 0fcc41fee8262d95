use Rattle.std.proofs.Common.{◌≡◌}
use Rattle.goals.specs.Plans.{goals_with}
use Rattle.goals.proofs.planning.goals_with.Given as goal

abbrev pub invariant-loop-word : goal.invariant-loop-word
invariant-loop-word l = l.goals ≡ goals_with l.patterns.value.items l.yielded
