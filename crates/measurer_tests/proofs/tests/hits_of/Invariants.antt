use Rattle.measurer.specs.Measurers.{IsMadeFor}
use Rattle.measurer_tests.proofs.tests.hits_of.Given as goal

abbrev pub invariant-added : goal.invariant-added
invariant-added l = IsMadeFor l.plan l.measurer
