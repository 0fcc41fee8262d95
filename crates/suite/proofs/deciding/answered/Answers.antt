use Rattle.std.proofs.Common.{sym, subst, arith}
use Rattle.search_checked.specs.Outcomes.{IsOutcome}
use Rattle.search.specs.Nexts.{IsModel}
use Rattle.suite.proofs.Refuted.{none_hits}
use Rattle.suite.proofs.SeekingLaws.{exact_for}
use Rattle.suite.proofs.deciding.answered.Goals as goal

pub confirmed-requires-clause-variables : goal.confirmed-requires-clause-variables
confirmed-requires-clause-variables c = let few = c.requires.exact.few in omega (arith, few)

pub confirmed-requires-clause-formula : goal.confirmed-requires-clause-formula
confirmed-requires-clause-formula c = c.requires.exact.exact.over

pub made_input-requires-clause-model : goal.made_input-requires-clause-model
made_input-requires-clause-model c =
    let found = c.requires.found in
    subst (IsModel c.args.formula.formula) (sym c.deref.ensures) (subst (IsOutcome c.args.formula.formula found.0) c.in-Model.is (c.in_ok-model.ensures found.0 found.1))

pub returns-in_ok-input-in-Model : goal.returns-in_ok-input-in-Model
returns-in_ok-input-in-Model c = λ budget found. c.in_ok-input-in-Model.ensures

pub returns-in-Refuted : goal.returns-in-Refuted
returns-in-Refuted c = λ budget found form is.
    let x = c.args.sought.now.goal in
    let g = x.given.now in
    let e = g.planned.entry in
    let exact = exact_for x c.args.formula c.requires.exact form is in
    let refuted = subst (IsOutcome c.args.formula.formula budget) c.in-Refuted.is (c.in_ok-model.ensures budget found) in
    (exact, refuted.0, none_hits e.graph.now e.function.now g.planned.predicates g.planned.plan g.bounds g.ends form c.args.formula c.in-Refuted.derivation exact refuted.0.0, refuted.1)

pub returns-in-Open : goal.returns-in-Open
returns-in-Open c = λ budget found form is.
    let spent = subst (IsOutcome c.args.formula.formula budget) c.in-Open.is (c.in_ok-model.ensures budget found) in
    (exact_for c.args.sought.now.goal c.args.formula c.requires.exact form is, spent)
