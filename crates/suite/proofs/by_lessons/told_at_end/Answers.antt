use Rattle.std.proofs.Common.{sym, subst, arith}
use Rattle.search.specs.Nexts.{IsEnd, IsModel}
use Rattle.suite.proofs.Lent.{given_none_hits, own_model}
use Rattle.suite.proofs.SeekingLaws.{exact_for}
use Rattle.suite.proofs.by_lessons.told_at_end.Goals as goal

pub made_input-requires-clause-model : goal.made_input-requires-clause-model
made_input-requires-clause-model c =
    let ended = subst (IsEnd c.args.given.now.formula c.requires.found.0) c.in-Model.is c.requires.found.1 in
    subst (IsModel c.args.formula.now.formula) (sym c.deref.ensures) (own_model c.args.formula.now.formula c.args.given.now.formula c.in-Model.model c.requires.given ended)

pub confirm-requires-clause-variables : goal.confirm-requires-clause-variables
confirm-requires-clause-variables c =
    let few = c.requires.exact.few in
    let same = c.requires.given.variables in
    omega (arith, few, same)

pub confirm-requires-clause-formula : goal.confirm-requires-clause-formula
confirm-requires-clause-formula c = c.requires.given.over c.requires.exact.exact.over

pub confirm-requires-clause-checks : goal.confirm-requires-clause-checks
confirm-requires-clause-checks c = (subst (IsEnd c.args.given.now.formula c.requires.found.0) c.in-NoModel.is c.requires.found.1).0

pub learn-requires : goal.learn-requires
learn-requires c = (subst (IsEnd c.args.given.now.formula c.requires.found.0) c.in-NoModel.is c.requires.found.1).0

pub returns-in_ok-learn-in-NoModel-clause-told : goal.returns-in_ok-learn-in-NoModel-clause-told
returns-in_ok-learn-in-NoModel-clause-told c = λ form is.
    let x = c.args.sought.now.goal in
    let g = x.given.now in
    let e = g.planned.entry in
    let exact = exact_for x c.args.formula.now c.requires.exact form is in
    let checks = (subst (IsEnd c.args.given.now.formula c.requires.found.0) c.in-NoModel.is c.requires.found.1).0 in
    given_none_hits e.graph.now e.function.now g.planned.predicates g.planned.plan g.bounds g.ends form c.args.formula.now c.args.given.now.formula c.in-NoModel.derivation exact c.requires.given checks
