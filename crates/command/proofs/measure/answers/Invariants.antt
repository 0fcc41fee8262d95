use Rattle.std.proofs.Common.{◌≡◌}
use Rattle.measurer.specs.Measurers.{hits_of}
use Rattle.command.specs.Measure.{answers_of}
use Rattle.command.proofs.measure.answers.Given as goal

abbrev pub invariant-loop-place : goal.invariant-loop-place
invariant-loop-place l = l.answers.items ≡ answers_of (hits_of l.measurer) l.place
