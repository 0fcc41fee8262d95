use Rattle.std.proofs.Common.{refl, ◌∙◌, ap}
use Rattle.serde_json.specs.Written.{has_float}
use Rattle.report.proofs.GeneratedLaws.{found_is}
use Rattle.report.proofs.NoFloats.{generated_no_float}
use Rattle.report.proofs.generated_values.generated_json.Goals as goal

pub returns : goal.returns
returns c =
    let listed = rw (c.deref.ensures, c.deref-2.ensures) at c.in_ok-inputs.ensures in
    let value = rw c.deref-3.ensures at c.in_ok-value.ensures in
    let value_is =
    found_is c.args.graph.now c.args.plan.now c.args.entry c.args.made.now c.args.kept.now c.args.bounds c.args.budget c.args.ends _ _ _ _
    c.in_ok-bounds.ensures c.parameter_kinds.ensures listed value in
    let none =
    ap has_float value_is
    ∙ generated_no_float c.args.graph.now c.args.plan.now c.args.entry c.args.made.now c.args.kept.now c.args.bounds c.args.budget c.args.ends in
    let text = c.in_ok-text.ensures.text none in
    rw (c.in_ok-extend_from_slice.ensures.items, text, value_is) refl
