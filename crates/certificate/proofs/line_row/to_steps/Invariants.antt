use Rattle.std.proofs.Common.{◌≡◌, ◌++◌, length}
use Rattle.certificate.specs.Certificates.{AreStepsOver, numbers_of_steps}
use Rattle.certificate.proofs.line_row.to_steps.Given as goal

abbrev pub invariant-loop-antecedent : goal.invariant-loop-antecedent
invariant-loop-antecedent l = record {
  over : AreStepsOver l.variables l.steps;
  numbers : l.numbers ≡ numbers_of_steps l.steps ++ l.rest;
}

abbrev pub decreases-loop-antecedent : goal.decreases-loop-antecedent
decreases-loop-antecedent l = length l.rest
