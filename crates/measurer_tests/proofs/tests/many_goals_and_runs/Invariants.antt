use Rattle.measurer.specs.Measurers.{IsMadeFor}
use Rattle.measurer_tests.proofs.tests.many_goals_and_runs.Given as goal

abbrev pub invariant-short : goal.invariant-short
invariant-short g l = IsMadeFor l.plan l.measurer
