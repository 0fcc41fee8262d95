use Rattle.std.proofs.Common.{length, arith, ap, ◌∙◌}
use Rattle.measurer.specs.Measurers.{hits_of}
use Rattle.command.proofs.MeasureLaws.{answers_many, hits_many}
use Rattle.command.proofs.measure.report.Goals as goal

pub reduce-requires : goal.reduce-requires
reduce-requires c =
    let many = hits_many _ _ _ _ c.args.inputs.now _ _ _ c.in_ok-made.ensures.1 in
    omega (arith, ap length c.hits.ensures, many, c.requires.few)

pub measured_json-requires : goal.measured_json-requires
measured_json-requires c = ap length (c.deref-then-json.ensures.value ∙ c.in_ok-answers.ensures) ∙ answers_many (hits_of c.in_ok-made.made.measurer) _ ∙ c.len-count.ensures

pub measured_text-requires : goal.measured_text-requires
measured_text-requires c = ap length (c.deref-else-json-2.ensures.value ∙ c.in_ok-answers.ensures) ∙ answers_many (hits_of c.in_ok-made.made.measurer) _ ∙ c.len-count.ensures
