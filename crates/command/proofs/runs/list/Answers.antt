use Rattle.std.proofs.Common.{ap, ◌∙◌}
use Rattle.std.proofs.lemmas.Result.{err_from_is_err_and}
use Rattle.report.specs.Texts.{runs_text}
use Rattle.command.specs.Entries.{seen}
use Rattle.command.specs.RunList.{IsRecorded}
use Rattle.command.specs.Runs.{no_predicates, runs_of}
use Rattle.command.specs.Said.{answered}
use Rattle.command.proofs.GivesLaws.{tells_refused}
use Rattle.command.proofs.ReadsLaws.{refused_map}
use Rattle.command.proofs.RunListLaws.{answered_few, refused_many}
use Rattle.command.proofs.runs.list.Goals as goal

pub returns-in_err-runs : goal.returns-in_err-runs
returns-in_err-runs c = λ names.
    let e = c.args.starts.now.entry in
    let p = err_from_is_err_and c.from_residual.result c.from_residual.ensures.1 in
    rw (p.1, p.2) (tells_refused (IsRecorded e.graph.now (seen e) c.args.steps c.args.starts.now.inputs.now) names c.in_err-runs.field-0.0
    (refused_map c.in_err-runs.field-0.0 c.in_err-runs.ensures (λ x why. refused_many (runs_of e.graph.now e.function.now no_predicates c.args.steps c.args.starts.now.inputs.now) _ x names why)))

pub returns : goal.returns
returns c = λ names.
    let e = c.args.starts.now.entry in
    let text = rw c.deref.ensures.value at c.in_ok-text.ensures in
    ap answered (text ∙ ap (runs_text e.graph.now e.number) c.in_ok-runs.ensures.1)
    ∙ answered_few (runs_of e.graph.now e.function.now no_predicates c.args.steps c.args.starts.now.inputs.now) _ c.in_ok-runs.ensures.0
