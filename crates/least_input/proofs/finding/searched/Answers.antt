use Rattle.std.proofs.Common.{subst, arith}
use Rattle.search_checked.specs.Outcomes.{IsOutcome}
use Rattle.suite.proofs.Refuted.{none_hits}
use Rattle.suite.proofs.SeekingLaws.{exact_for}
use Rattle.least_input.proofs.Openings.{open_first}
use Rattle.least_input.proofs.finding.searched.Goals as goal

pub outcome-requires-clause-variables : goal.outcome-requires-clause-variables
outcome-requires-clause-variables c = let few = c.requires.few in omega (arith, few)

pub outcome-requires-clause-formula : goal.outcome-requires-clause-formula
outcome-requires-clause-formula c = c.requires.exact.over

pub descended-requires-clause-model : goal.descended-requires-clause-model
descended-requires-clause-model c = subst (IsOutcome c.args.whole.formula c.args.budget) c.in-Model.is c.in_ok-model.ensures

pub returns-in-Refuted : goal.returns-in-Refuted
returns-in-Refuted c = λ form is.
    let g = c.args.goal.given.now in
    let e = g.planned.entry in
    let whole = c.args.whole in
    let exact = exact_for c.args.goal whole c.requires form is in
    let refuted = subst (IsOutcome whole.formula c.args.budget) c.in-Refuted.is c.in_ok-model.ensures in
    (exact, refuted.0, none_hits e.graph.now e.function.now g.planned.predicates g.planned.plan g.bounds g.ends form whole c.in-Refuted.derivation exact refuted.0.0, refuted.1)

pub returns-in-Open : goal.returns-in-Open
returns-in-Open c = λ form is.
    let g = c.args.goal.given.now in
    let e = g.planned.entry in
    let exact = exact_for c.args.goal c.args.whole c.requires form is in
    let spent = subst (IsOutcome c.args.whole.formula c.args.budget) c.in-Open.is c.in_ok-model.ensures in
    open_first e.graph.now e.function.now g.planned.predicates g.planned.plan g.bounds g.ends form c.args.budget c.args.whole c.in-Open.history exact spent
