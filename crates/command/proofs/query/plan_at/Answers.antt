use Rattle.std.proofs.Common.{subst, inl, inr}
use Rattle.std.proofs.lemmas.Result.{err_from_is_err_and}
use Rattle.cfa.specs.declared.parts.GraphParts.{GraphParts}
use Rattle.command.specs.Queries.{IsPlanned, IsRefused}
use Rattle.command.proofs.ReadsLaws.{refused_map}
use Rattle.command.proofs.query.plan_at.Goals as goal

pub returns-in_err-entry : goal.returns-in_err-entry
returns-in_err-entry c =
    let p = err_from_is_err_and c.from_residual.result c.from_residual.ensures.1 in
    rw (p.1, p.2) (refused_map c.in_err-entry.field-0.0 c.in_err-entry.ensures (λ x missing. inl missing))

pub returns-in_err-predicates : goal.returns-in_err-predicates
returns-in_err-predicates c =
    let p = err_from_is_err_and c.from_residual-in_err-predicates.result c.from_residual-in_err-predicates.ensures.1 in
    let is = c.in_ok-entry.ensures in
    rw (p.1, p.2) (refused_map c.in_err-predicates.field-0.0 c.in_err-predicates.ensures.answer
    (λ x cause. inr (c.in_ok-entry.entry, is.1, subst (λ (h : GraphParts). IsRefused h c.args.query.now x) is.0 cause)))

pub returns : goal.returns
returns c =
    let is = c.in_ok-entry.ensures in
    (is.0, is.1, subst (λ (h : GraphParts). IsPlanned h c.args.query.now c.in_ok-predicates.predicates c.in_ok-predicates.plan) is.0 c.in_ok-predicates.ensures.answer)
