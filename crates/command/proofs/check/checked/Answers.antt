use Rattle.std.proofs.Common.{inl, inr, refl, arith}
use Rattle.std.proofs.lemmas.Result.{err_from_is_err_and}
use Rattle.report.specs.Generated.{refuted_text}
use Rattle.command.specs.Check.{IsCheckedAt}
use Rattle.command.specs.Comparison.{IsCompared}
use Rattle.command.specs.Entries.{seen}
use Rattle.command.proofs.GivesLaws.{tells_map, tells_refused}
use Rattle.command.proofs.GoalLaws.{exact_at, there_still, unwound_some}
use Rattle.suite.proofs.GoalSizes.{goal_is_within, goal_refused, unwind_refused}
use Rattle.command.proofs.ReadsLaws.{refused_map}
use Rattle.command.proofs.StageLaws.{goal_found}
use Rattle.command.proofs.check.checked.Goals as goal

pub returns-in_err-unwound : goal.returns-in_err-unwound
returns-in_err-unwound c = λ names one is.
    let why = (c.in_err-unwound.ensures.refused c.args.goal.now.given.now.planned.entry.function.now c.args.goal.now.given.now.planned.entry.there) in
    let p = err_from_is_err_and c.from_residual.result c.from_residual.ensures.1 in
    rw (p.1, p.2) (tells_refused (IsCheckedAt names c.args.goal.now.given.now.planned.entry.graph.now (seen c.args.goal.now.given.now.planned.entry) c.args.goal.now.given.now.planned.predicates c.args.goal.now.given.now.planned.plan c.args.goal.now.given.now.bounds c.args.goal.now.given.now.ends c.args.goal.now.number one c.args.theirs.now.formula c.args.theirs.now.derivation) names
    c.in_err-unwound.field-0.0
    (refused_map c.in_err-unwound.field-0.0 (unwind_refused c.args.goal.now.given.now.planned.entry.graph.now c.args.goal.now.given.now.planned.entry.function.now c.args.goal.now.given.now.planned.predicates c.args.goal.now.given.now.planned.plan c.args.goal.now.given.now.bounds one c.in_err-unwound.field-0.0 why)
    (λ x cause. inl (x, cause, refl))))

pub formula-requires-clause-unwound : goal.formula-requires-clause-unwound
formula-requires-clause-unwound c =
    unwound_some _ _ _ _ _ _ _ (c.in_ok-unwound.ensures.accepted c.args.goal.now.given.now.planned.entry.function.now c.args.goal.now.given.now.planned.entry.there) c.args.goal.now.given.now.planned.entry.there

pub returns-in_err-ours : goal.returns-in_err-ours
returns-in_err-ours c = λ names one is.
    let unwound = (c.in_ok-unwound.ensures.accepted c.args.goal.now.given.now.planned.entry.function.now c.args.goal.now.given.now.planned.entry.there) in
    let why = c.in_err-ours.ensures.refused one is in
    let p = err_from_is_err_and c.from_residual-in_err-ours.result c.from_residual-in_err-ours.ensures.1 in
    rw (p.1, p.2) (tells_refused (IsCheckedAt names c.args.goal.now.given.now.planned.entry.graph.now (seen c.args.goal.now.given.now.planned.entry) c.args.goal.now.given.now.planned.predicates c.args.goal.now.given.now.planned.plan c.args.goal.now.given.now.bounds c.args.goal.now.given.now.ends c.args.goal.now.number one c.args.theirs.now.formula c.args.theirs.now.derivation) names
    c.in_err-ours.field-0.0
    (refused_map c.in_err-ours.field-0.0 (goal_refused _ _ _ _ _ _ _ unwound c.args.goal.now.given.now.planned.plan one c.in_err-ours.field-0.0 why)
    (λ x cause. inl (x, cause, refl))))

pub compared-requires : goal.compared-requires
compared-requires c =
    let unwound = c.in_ok-unwound.ensures.accepted c.args.goal.now.given.now.planned.entry.function.now c.args.goal.now.given.now.planned.entry.there in
    let found = goal_found c.args.goal.now.given.now.planned.plan c.args.goal.now.number (λ _ _. ⊥) c.args.goal.now.some c.args.goal.now.there in
    let exact = c.in_ok-ours.ensures.accepted c.args.goal.now.given.now.planned.entry.function.now found.0 (there_still _ _ _ _ _ _ _ unwound c.args.goal.now.given.now.planned.entry.there) found.1 in
    omega (arith, exact.few_clauses, c.in_ok-ours.ensures.small)

pub returns : goal.returns
returns c = λ names one is.
    let unwound = (c.in_ok-unwound.ensures.accepted c.args.goal.now.given.now.planned.entry.function.now c.args.goal.now.given.now.planned.entry.there) in
    let exact = c.in_ok-ours.ensures.accepted c.args.goal.now.given.now.planned.entry.function.now one (there_still _ _ _ _ _ _ _ unwound c.args.goal.now.given.now.planned.entry.there) is in
    tells_map (IsCompared (refuted_text c.args.goal.now.number c.args.goal.now.given.now.bounds c.args.goal.now.given.now.ends) c.args.theirs.now.formula c.in_ok-ours.ours.formula c.args.theirs.now.derivation)
    (IsCheckedAt names c.args.goal.now.given.now.planned.entry.graph.now (seen c.args.goal.now.given.now.planned.entry) c.args.goal.now.given.now.planned.predicates c.args.goal.now.given.now.planned.plan c.args.goal.now.given.now.bounds c.args.goal.now.given.now.ends c.args.goal.now.number one c.args.theirs.now.formula c.args.theirs.now.derivation) names c.compared.result
    (λ said due. inr (
      goal_is_within _ _ _ _ _ _ _ unwound c.args.goal.now.given.now.planned.plan one (c.in_ok-ours.ensures.size one is),
      (c.in_ok-ours.ours, exact_at _ _ _ _ _ _ _ unwound c.args.goal.now.given.now.planned.plan one _ exact, due),
    ))
    (rw c.in_ok-text.ensures at (c.compared.ensures names))
