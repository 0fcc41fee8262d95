use Rattle.std.proofs.Common.{List, map, sym, ap, subst, ◌∙◌, All}
use Rattle.c_values.specs.Kind.{IsKind}
use Rattle.c_values.specs.declared.kinds.Kind.{Kind}
use Rattle.c_meaning.specs.declared.input.Input.{Input}
use Rattle.goal_formula.specs.Bits.{assignment, input_from}
use Rattle.search_checked.specs.Outcomes.{IsOutcome}
use Rattle.search.specs.Nexts.{IsModel}
use Rattle.unwinder.proofs.Made.{parameter_kinds}
use Rattle.bounds_check.specs.Sufficing.{IsSpent}
use Rattle.bounds_check.proofs.Lefts.{left, rows_long}
use Rattle.bounds_check.proofs.Short.{none_leaves, own_bits}
use Rattle.bounds_check.proofs.sufficing.searched.Goals as goal

pub outcome-requires-clause-formula : goal.outcome-requires-clause-formula
outcome-requires-clause-formula c = c.requires.exact.over

pub left_input-requires-clause-kinds : goal.left_input-requires-clause-kinds
left_input-requires-clause-kinds c =
    let e = c.args.bounded.now.entry in
    subst (All IsKind) (sym c.deref-in-Model.ensures) (parameter_kinds e.graph.now e.number e.function.now c.well_formed-in-Model.ensures e.there)

pub left_input-requires-clause-words : goal.left_input-requires-clause-words
left_input-requires-clause-words c =
    c.requires.exact.shape.words ∙ ap (λ (kinds : List Kind). map (λ (kind : Kind). kind.width) kinds) (sym c.deref-in-Model.ensures)

pub left_input-requires-clause-answers : goal.left_input-requires-clause-answers
left_input-requires-clause-answers c = rows_long c.args.bounded.now.bounds.answers c.args.formula.answers c.requires.exact.shape.answers_are

pub returns-in_ok-input-in-Model : goal.returns-in_ok-input-in-Model
returns-in_ok-input-in-Model c =
    let b = c.args.bounded.now in
    let e = b.entry in
    let f = e.function.now in
    let model = c.deref.result.now in
    let given : IsModel c.args.formula.formula c.in-Model.model = subst (IsOutcome c.args.formula.formula c.args.budget) c.in-Model.is c.in_ok-model.ensures in
    let is : IsModel c.args.formula.formula model = subst (IsModel c.args.formula.formula) (sym c.deref.ensures) given in
    let found : List Kind → Input = λ (ks : List Kind). input_from (assignment model) ks c.args.formula in
    let made = rw c.deref-in-Model.ensures at c.in_ok-input-in-Model.ensures in
    left e.graph.now f e.number b.bounds c.args.formula model c.well_formed-in-Model.ensures e.there e.startable c.requires.exact is c.in_ok-input-in-Model.input made.words made.answers

pub returns-in-Refuted : goal.returns-in-Refuted
returns-in-Refuted c =
    let b = c.args.bounded.now in
    let exact = c.requires.exact in
    let is = subst (IsOutcome c.args.formula.formula c.args.budget) c.in-Refuted.is c.in_ok-model.ensures in (
      none_leaves b.entry.graph.now b.entry.function.now b.bounds c.args.formula c.in-Refuted.derivation exact is.0.0,
      own_bits b.entry.graph.now b.entry.function.now b.bounds c.args.formula exact,
      is.0,
      is.1,
    )

pub returns-in-Open : goal.returns-in-Open
returns-in-Open c =
    let b = c.args.bounded.now in
    let is : IsSpent c.args.formula.formula c.args.budget c.in-Open.history = subst (IsOutcome c.args.formula.formula c.args.budget) c.in-Open.is c.in_ok-model.ensures in
    (own_bits b.entry.graph.now b.entry.function.now b.bounds c.args.formula c.requires.exact, is)
