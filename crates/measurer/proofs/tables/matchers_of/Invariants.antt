use Rattle.measurer.specs.Measured.{AreMatchers}
use Rattle.measurer.proofs.tables.matchers_of.Given as goal

abbrev pub invariant-loop-place : goal.invariant-loop-place
invariant-loop-place l = AreMatchers l.sets l.goals l.first l.last l.place l.matchers
