use Rattle.std.proofs.Common.{sym, ◌∙◌, get_or, rules, SFits, w32}
use Rattle.std.specs.Prelude.{pos}
use Rattle.std.proofs.lemmas.Int.{to_z-of_z}
use Rattle.cnf.specs.Checks.{clauses_before}
use Rattle.cnf.specs.literal_marks.Marks.{marked}
use Rattle.derivation_check.proofs.StepLaws.{step_refused}
use Rattle.derivation_check.proofs.chain.mark_steps.Goals as goal

pub returns-then-not-mark_step : goal.returns-then-not-mark_step
returns-then-not-mark_step c =
    let fits : SFits w32 (get_or c.args.steps.now c.loop-step.step-index (0, pos 0)).1 = search rules in
    let refused = simp to_z-of_z at c.if-not-mark_step.ensures in
    sym c.loop-step.invariant
    ∙ step_refused (clauses_before c.args.formula.now c.args.derivation.now c.args.before) (marked c.args.places.now c.loop-step.marks) _ _ c.loop-step-test.true refused
