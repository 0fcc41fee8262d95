use Rattle.std.proofs.Common.{inl, inr, refl, subst}
use Rattle.std.proofs.lemmas.Result.{err_from_is_err_and}
use Rattle.suite_problem.specs.declared.goal.Goal.{Goal}
use Rattle.least_input.specs.AtGoal.{IsAnsweredAt, IsOpenAt}
use Rattle.command.specs.Entries.{seen}
use Rattle.command.specs.Least.{IsLowered}
use Rattle.command.proofs.GivesLaws.{gives_nothing, gives_refused}
use Rattle.command.proofs.ReadsLaws.{refused_map}
use Rattle.command.proofs.least.lowered.Goals as goal

pub returns-in_err-sought : goal.returns-in_err-sought
returns-in_err-sought g c = λ names one is.
    let x = c.args.goal.now in
    let p = err_from_is_err_and c.from_residual.result c.from_residual.ensures.1 in
    rw (p.1, p.2) (gives_refused (IsLowered x.given.now.planned.entry.graph.now (seen x.given.now.planned.entry) x.given.now.planned.predicates x.given.now.planned.plan x.given.now.bounds x.given.now.ends x.number one names c.args.budget)
    names _ c.in_err-sought.field-0.0
    (refused_map c.in_err-sought.field-0.0 c.in_err-sought.ensures.refused (λ y why. inl (y, why one is, refl))) refl)

pub returns-in_err-least : goal.returns-in_err-least
returns-in_err-least g c = λ names one is.
    let x = c.args.goal.now in
    let p = err_from_is_err_and c.from_residual-in_err-least.result c.from_residual-in_err-least.ensures.1 in
    gives_nothing (IsLowered x.given.now.planned.entry.graph.now (seen x.given.now.planned.entry) x.given.now.planned.predicates x.given.now.planned.plan x.given.now.bounds x.given.now.ends x.number one names c.args.budget)
    names _ _ p

pub returns-in_err-reply : goal.returns-in_err-reply
returns-in_err-reply g c = λ names one is.
    let x = c.args.goal.now in
    let p = err_from_is_err_and c.from_residual-in_err-reply.result c.from_residual-in_err-reply.ensures.1 in
    gives_nothing (IsLowered x.given.now.planned.entry.graph.now (seen x.given.now.planned.entry) x.given.now.planned.predicates x.given.now.planned.plan x.given.now.bounds x.given.now.ends x.number one names c.args.budget)
    names _ _ p

pub returns : goal.returns
returns g c = λ names one is.
    let x = c.args.goal.now in
    let own = c.in_ok-sought.ensures.goal in
    let answered : IsAnsweredAt x c.args.budget c.in_ok-least.least = subst (λ (y : Goal). IsAnsweredAt y c.args.budget c.in_ok-least.least) own c.in_ok-least.ensures.answered in
    let short : IsOpenAt x c.args.budget c.in_ok-least.least = subst (λ (y : Goal). IsOpenAt y c.args.budget c.in_ok-least.least) own c.in_ok-least.ensures.enough in
    let given = c.in_ok-reply.ensures in
    (given.0, inr (c.in_ok-sought.ensures.within one is, (c.in_ok-least.least, answered one is, short one is, given.1)), given.2)
