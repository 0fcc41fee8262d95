use Rattle.std.proofs.Common.{◌≡◌, ◌∙◌, inl, inr, refl, ap, sym, subst}
use Rattle.std.proofs.lemmas.Result.{err_from_is_err_and}
use Rattle.suite_problem.specs.declared.goal.Goal.{Goal}
use Rattle.suite.specs.Seeking.{IsDecidedAt, IsDecidedAs, IsOpenAt, Seeking}
use Rattle.command.specs.Entries.{seen}
use Rattle.command.specs.Prove.{IsProved}
use Rattle.command.proofs.GivesLaws.{gives_nothing, gives_refused}
use Rattle.command.proofs.ReadsLaws.{refused_map}
use Rattle.command.proofs.StageLaws.{goal_found}
use Rattle.command.proofs.prove.proof.Goals as goal

pub returns-in_err-sought : goal.returns-in_err-sought
returns-in_err-sought g c = λ names one is.
    let x = c.args.goal.now in
    let p = err_from_is_err_and c.from_residual.result c.from_residual.ensures.1 in
    rw (p.1, p.2) (gives_refused (IsProved x.given.now.planned.entry.graph.now (seen x.given.now.planned.entry) x.given.now.planned.predicates x.given.now.planned.plan x.given.now.bounds x.given.now.ends x.number one names c.args.budget)
    names _ c.in_err-sought.field-0.0
    (refused_map c.in_err-sought.field-0.0 c.in_err-sought.ensures.refused (λ y why. inl (y, why one is, refl))) refl)

pub said_of-requires : goal.said_of-requires
said_of-requires g c =
    let x = c.args.goal.now in
    let found = goal_found x.given.now.planned.plan x.number (λ _ _. ⊥) x.some x.there in
    let at : c.decide.new.sought.goal ≡ x = ap (λ (s : Seeking). s.goal) c.in_ok-decided.ensures.same ∙ c.in_ok-sought.ensures.goal in
    let decided : IsDecidedAt x c.args.budget c.in_ok-decided.decided = subst (λ (y : Goal). IsDecidedAt y c.args.budget c.in_ok-decided.decided) c.in_ok-sought.ensures.goal c.in_ok-decided.ensures.decided in
    (found.0, (c.args.budget, subst (λ (y : Goal). IsDecidedAs y found.0 c.args.budget c.in_ok-decided.decided) (sym at) (decided found.0 found.1)))

pub returns-in_err-decided : goal.returns-in_err-decided
returns-in_err-decided g c = λ names one is.
    let x = c.args.goal.now in
    let p = err_from_is_err_and c.from_residual-in_err-decided.result c.from_residual-in_err-decided.ensures.1 in
    gives_nothing (IsProved x.given.now.planned.entry.graph.now (seen x.given.now.planned.entry) x.given.now.planned.predicates x.given.now.planned.plan x.given.now.bounds x.given.now.ends x.number one names c.args.budget)
    names _ _ p

pub returns-in_err-reply : goal.returns-in_err-reply
returns-in_err-reply g c = λ names one is.
    let x = c.args.goal.now in
    let p = err_from_is_err_and c.from_residual-in_err-reply.result c.from_residual-in_err-reply.ensures.1 in
    gives_nothing (IsProved x.given.now.planned.entry.graph.now (seen x.given.now.planned.entry) x.given.now.planned.predicates x.given.now.planned.plan x.given.now.bounds x.given.now.ends x.number one names c.args.budget)
    names _ _ p

pub returns : goal.returns
returns g c = λ names one is.
    let x = c.args.goal.now in
    let d = c.in_ok-decided.decided in
    let own = c.in_ok-sought.ensures.goal in
    let at : c.decide.new.sought.goal ≡ x = ap (λ (s : Seeking). s.goal) c.in_ok-decided.ensures.same ∙ own in
    let decided : IsDecidedAt x c.args.budget d = subst (λ (y : Goal). IsDecidedAt y c.args.budget d) own c.in_ok-decided.ensures.decided in
    let short : IsOpenAt x c.args.budget d = subst (λ (y : Goal). IsOpenAt y c.args.budget d) own c.in_ok-decided.ensures.enough in
    let given = rw at at (c.in_ok-reply.ensures one c.args.budget) in
    let said = given (decided one is) in
    (said.0, inr (c.in_ok-sought.ensures.within one is, (d, decided one is, short one is, said.1)), said.2)
