use Rattle.std.proofs.Common.{rules, SFits, w64}
use Rattle.std.proofs.lemmas.Int.{to_z-of_z}
use Rattle.certificate.proofs.LineLaws.{odd_steps, bad_step, steps_over_more, numbers_more}
use Rattle.certificate.proofs.line_row.to_steps.Goals as goal

pub returns-in_default-first_and_rest : goal.returns-in_default-first_and_rest
returns-in_default-first_and_rest c =
    odd_steps c.args.variables _ _ _ _ _ c.loop-antecedent.invariant.numbers c.in-Some.ensures c.in_default-first_and_rest.ensures

pub returns-in_default-to_step : goal.returns-in_default-to_step
returns-in_default-to_step c =
    let fits : SFits w64 c.in-Some.antecedent = search rules in
    let pivot_fits : SFits w64 c.in-Some-first_and_rest.pivot = search rules in
    let bad = simp to_z-of_z at c.in_default-to_step.ensures in
    bad_step c.args.variables _ _ _ _ _ _ _ c.loop-antecedent.invariant.numbers c.in-Some.ensures c.in-Some-first_and_rest.ensures bad

pub loop-antecedent-preserved : goal.loop-antecedent-preserved
loop-antecedent-preserved c =
    let fits : SFits w64 c.in-Some.antecedent = search rules in
    let pivot_fits : SFits w64 c.in-Some-first_and_rest.pivot = search rules in
    let good = simp to_z-of_z at c.in-Some-to_step.ensures in
    let pushed = c.in_ok-push.ensures.ok in
    record {
      over = rw pushed (steps_over_more c.args.variables _ _ c.loop-antecedent.invariant.over good.0);
      numbers = rw pushed (numbers_more _ _ _ _ _ _ _ _ c.loop-antecedent.invariant.numbers c.in-Some.ensures c.in-Some-first_and_rest.ensures good.1 good.2);
    }
