use Rattle.std.proofs.Common.{◌≡◌, ◌++◌, drop}
use Rattle.certificate.specs.Certificates.{numbers_of_steps}
use Rattle.certificate.specs.Numbers.{numbers_text}
use Rattle.certificate.proofs.write.push_steps.Given as goal

abbrev pub invariant-loop-step : goal.invariant-loop-step
invariant-loop-step l =
    l.text.items ++ numbers_text (numbers_of_steps (drop l.step-index l.steps)) ≡ l.initial.text.items ++ numbers_text (numbers_of_steps l.steps)
