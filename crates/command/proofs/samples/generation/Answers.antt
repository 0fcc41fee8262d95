use Rattle.std.proofs.Common.{[], ◌∷◌}
use Rattle.std.proofs.lemmas.Result.{err_from_is_err_and}
use Rattle.report.specs.Generated.{sample_text}
use Rattle.suite_problem.specs.declared.generated.Generated.{Generated}
use Rattle.command.specs.Asked.{sample_file}
use Rattle.command.specs.Entries.{seen}
use Rattle.command.specs.Sample.{default_budget}
use Rattle.command.proofs.GenerateLaws.{generation_made, generation_refused}
use Rattle.command.proofs.samples.generation.Goals as goal

pub returns-in_err-made : goal.returns-in_err-made
returns-in_err-made g c =
    let p = err_from_is_err_and c.from_residual.result c.from_residual.ensures.1 in
    rw (p.1, p.2) (generation_refused (sample_file ∷ []) c.args.given.now.planned.entry.graph.now (seen c.args.given.now.planned.entry) c.args.given.now.planned.predicates c.args.given.now.planned.plan c.args.given.now.bounds c.args.given.now.ends default_budget
    (λ (one : Generated). sample_text c.args.number c.args.given.now.planned.entry.graph.now c.args.given.now.planned.plan one.answers) _ c.in_err-made.field-0.0 c.in_err-made.ensures.0 c.in_err-made.ensures.1)

pub returns : goal.returns
returns g c =
    generation_made (sample_file ∷ []) c.args.given.now.planned.entry.graph.now (seen c.args.given.now.planned.entry) c.args.given.now.planned.predicates c.args.given.now.planned.plan c.args.given.now.bounds c.args.given.now.ends default_budget
    (λ (one : Generated). sample_text c.args.number c.args.given.now.planned.entry.graph.now c.args.given.now.planned.plan one.answers) _ c.in_ok-made.made c.in_ok-text.text c.is_open.result c.in_ok-made.ensures (rw c.deref.ensures at c.in_ok-text.ensures) (rw c.deref-2.ensures at c.is_open.ensures)
