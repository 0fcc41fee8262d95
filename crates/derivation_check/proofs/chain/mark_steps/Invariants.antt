use Rattle.std.proofs.Common.{◌≡◌, drop}
use Rattle.cnf.specs.Checks.{clauses_before, resolved}
use Rattle.cnf.specs.literal_marks.Marks.{marked}
use Rattle.derivation_check.proofs.chain.mark_steps.Given as goal

abbrev pub invariant-loop-step : goal.invariant-loop-step
invariant-loop-step l =
    resolved (clauses_before l.formula l.derivation l.before) (marked l.places l.marks) (drop l.step-index l.steps)
    ≡ resolved (clauses_before l.formula l.derivation l.before) (marked l.places l.initial.marks) l.steps
