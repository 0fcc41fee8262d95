use Rattle.std.proofs.Common.{[], ◌∷◌, codes, inl, inr, refl}
use Rattle.std.proofs.lemmas.Result.{err_from_is_err_and}
use Rattle.sample.specs.Sample.{query_text}
use Rattle.command.specs.Asked.{sample_file}
use Rattle.command.specs.Sample.{IsDueOfSample}
use Rattle.command.proofs.AtEntry.{SampleThen}
use Rattle.command.proofs.CallLaws.{at_plan, not_planned}
use Rattle.command.proofs.GivesLaws.{gives_map, gives_refused}
use Rattle.command.proofs.ReadsLaws.{refused_map}
use Rattle.command.specs.Entries.{seen}
use Rattle.command.proofs.samples.sample.Goals as goal

pub returns-in_err-graph : goal.returns-in_err-graph
returns-in_err-graph g c =
    let p = err_from_is_err_and c.from_residual.result c.from_residual.ensures.1 in
    rw (p.1, p.2) (gives_refused (IsDueOfSample c.args.number) (sample_file ∷ []) _ c.in_err-graph.field-0.0
    (refused_map c.in_err-graph.field-0.0 c.in_err-graph.ensures.refused (λ x cause. inl (x, cause, refl))) refl)

pub returns-in_err-planned : goal.returns-in_err-planned
returns-in_err-planned g c =
    let cause = rw (c.deref.ensures.value, c.in_ok-query.ensures) at c.in_err-planned.ensures in
    let p = err_from_is_err_and c.from_residual-in_err-planned.result c.from_residual-in_err-planned.ensures.1 in
    rw (p.1, p.2) (gives_refused (IsDueOfSample c.args.number) (sample_file ∷ []) _ c.in_err-planned.field-0.0
    (refused_map c.in_err-planned.field-0.0 (not_planned (sample_file ∷ []) c.in_ok-graph.graph (codes "f") query_text (SampleThen c.args.number) c.in_err-planned.field-0.0 cause)
    (λ x due. inr (c.in_ok-graph.graph, c.in_ok-graph.ensures.accepted, due))) refl)

pub returns : goal.returns
returns g c =
    let is = rw (c.deref.ensures.value, c.in_ok-query.ensures) at c.in_ok-planned.ensures in
    gives_map (SampleThen c.args.number c.in_ok-planned.planned.entry.graph.now (seen c.in_ok-planned.planned.entry) c.in_ok-planned.planned.predicates c.in_ok-planned.planned.plan)
    (IsDueOfSample c.args.number) (sample_file ∷ []) _ c.generation.result
    (λ said due. inr (c.in_ok-graph.graph, c.in_ok-graph.ensures.accepted, at_plan (sample_file ∷ []) c.in_ok-graph.graph (codes "f") query_text (SampleThen c.args.number) c.in_ok-planned.planned is said due))
    c.generation.ensures
