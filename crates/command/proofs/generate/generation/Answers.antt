use Rattle.std.proofs.Common.{arith}
use Rattle.std.proofs.lemmas.Result.{err_from_is_err_and}
use Rattle.command.specs.Entries.{seen}
use Rattle.command.specs.Parts.{report_for}
use Rattle.command.proofs.GenerateLaws.{few_inputs, generation_made, generation_refused, inputs_have_words}
use Rattle.command.proofs.generate.generation.Goals as goal

pub returns-in_err-made : goal.returns-in_err-made
returns-in_err-made g c = λ names.
    let p = err_from_is_err_and c.from_residual.result c.from_residual.ensures.1 in
    rw (p.1, p.2) (generation_refused names c.args.given.now.planned.entry.graph.now (seen c.args.given.now.planned.entry) c.args.given.now.planned.predicates c.args.given.now.planned.plan c.args.given.now.bounds c.args.given.now.ends c.args.budget
    (report_for c.args.given.now c.args.budget c.args.json) _ c.in_err-made.field-0.0 c.in_err-made.ensures.0 c.in_err-made.ensures.1)

pub report-requires : goal.report-requires
report-requires g c =
    let made = c.in_ok-made.ensures in
    let few = few_inputs _ _ _ _ _ _ _ _ _ made.1 in
    let goals = c.args.given.now.planned.is_plan.few in
    record {
      words = inputs_have_words _ _ _ _ _ _ _ _ _ made.1 c.args.given.now.planned.entry.number c.args.given.now.planned.entry.there;
      taken = made.1.answered.taken_count;
      answers = made.1.answer_count;
      few = omega (arith, few, goals);
    }

pub returns : goal.returns
returns g c = λ names.
    generation_made names c.args.given.now.planned.entry.graph.now (seen c.args.given.now.planned.entry) c.args.given.now.planned.predicates c.args.given.now.planned.plan c.args.given.now.bounds c.args.given.now.ends c.args.budget
    (report_for c.args.given.now c.args.budget c.args.json) _ c.in_ok-made.made c.in_ok-text.text c.is_open.result c.in_ok-made.ensures c.in_ok-text.ensures (rw c.deref.ensures at c.is_open.ensures)
