use Rattle.std.proofs.Common.{refl, ◌∙◌, ap}
use Rattle.serde_json.specs.Written.{has_float}
use Rattle.report.proofs.NoFloats.{measured_no_float}
use Rattle.report.proofs.json.measured_json.Goals as goal

pub returns : goal.returns
returns c =
    let none =
    ap has_float c.in_ok-value.ensures
    ∙ measured_no_float c.args.graph.now c.args.plan.now c.args.entry c.args.results.now c.args.answers.now c.args.kept.now c.args.ends in
    let text = c.in_ok-text.ensures.text none in
    rw (c.in_ok-extend_from_slice.ensures.items, text, c.in_ok-value.ensures) refl
