use Rattle.measurer.specs.Measurers.{IsMadeFor}
use Rattle.measurer_tests.proofs.tests.first_runs.Given as goal

abbrev pub invariant-added : goal.invariant-added
invariant-added g l = IsMadeFor l.plan l.measurer
