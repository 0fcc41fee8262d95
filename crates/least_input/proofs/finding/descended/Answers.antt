use Rattle.std.proofs.Common.{◌≡◌, ℕ, All, List, Bool, length, map, Option, sym, ap, subst, ◌∙◌, arith}
use Rattle.c_meaning.specs.declared.input.Input.{Input}
use Rattle.c_values.specs.Kind.{IsKind}
use Rattle.c_values.specs.declared.kinds.Kind.{Kind}
use Rattle.goal_formula.specs.Bits.{assignment}
use Rattle.goal_formula.specs.declared.goal.GoalFormula.{GoalFormula}
use Rattle.suite.proofs.Models.{rows_long}
use Rattle.suite.proofs.SeekingLaws.{exact_for}
use Rattle.unwinder.proofs.Made.{parameter_kinds}
use Rattle.least_input.specs.Answers.{IsFoundLeast}
use Rattle.least_input.specs.Parts.{IsLowestOf, numbers_in}
use Rattle.least_input.proofs.LeastLaws.{found_least}
use Rattle.least_input.proofs.Openings.{open_stuck}
use Rattle.least_input.proofs.finding.descended.Goals as goal

pub lowest_model-requires-clause-small : goal.lowest_model-requires-clause-small
lowest_model-requires-clause-small c = let few = c.requires.whole.few in omega (arith, few)

pub lowest_model-requires-clause-over : goal.lowest_model-requires-clause-over
lowest_model-requires-clause-over c = c.requires.whole.exact.over

pub lowest_model-requires-clause-inputs : goal.lowest_model-requires-clause-inputs
lowest_model-requires-clause-inputs c = c.requires.whole.exact.inputs_over

pub numbers_of-requires-clause-kinds : goal.numbers_of-requires-clause-kinds
numbers_of-requires-clause-kinds c =
    let e = c.args.goal.given.now.planned.entry in
    subst (All IsKind) (sym c.deref-in-Model.ensures) (parameter_kinds e.graph.now e.number e.function.now c.well_formed-in-Model.ensures e.there)

pub numbers_of-requires-clause-words : goal.numbers_of-requires-clause-words
numbers_of-requires-clause-words c =
    let low = subst (IsLowestOf c.args.whole c.args.budget) c.in-Model.is c.in_ok-formula.ensures in
    ap (λ (g : GoalFormula). map length g.words) low.0 ∙ c.requires.whole.exact.shape.words ∙ ap (map (λ (kind : Kind). kind.width)) (sym c.deref-in-Model.ensures)

pub numbers_of-requires-clause-answers : goal.numbers_of-requires-clause-answers
numbers_of-requires-clause-answers c =
    let low = subst (IsLowestOf c.args.whole c.args.budget) c.in-Model.is c.in_ok-formula.ensures in
    subst (λ (g : GoalFormula). All (λ (row : List (Option ℕ)). length row ≡ 64) g.answers) (sym low.0)
    (rows_long c.args.goal.given.now.bounds.answers c.args.whole.answers c.requires.whole.exact.shape.answers_are)

pub returns-in_ok-input-in-Model : goal.returns-in_ok-input-in-Model
returns-in_ok-input-in-Model c = λ form is.
    let g = c.args.goal.given.now in
    let e = g.planned.entry in
    let whole = c.args.whole in
    let model = c.in-Model.model in
    let fixed = c.in-Model.fixed in
    let low = subst (IsLowestOf whole c.args.budget) c.in-Model.is c.in_ok-formula.ensures in
    let exact = exact_for c.args.goal whole c.requires.whole form is in
    let found = found_least e.graph.now g.planned.predicates e.number e.function.now g.planned.plan g.bounds g.ends form whole model c.args.budget fixed c.well_formed-in-Model.ensures e.there e.startable exact low.1 in
    let input : c.in_ok-input-in-Model.input ≡ numbers_in (assignment model) whole =
    c.in_ok-input-in-Model.ensures ∙ ap (λ (m : List Bool). numbers_in (assignment m) c.in-Model.formula) c.deref.ensures ∙ ap (numbers_in (assignment model)) low.0 in
    let Least : Input → GoalFormula → Type 0 = λ x y. IsFoundLeast e.graph.now e.function.now g.planned.predicates g.planned.plan g.bounds g.ends form c.args.budget x y fixed in
    subst (λ (y : GoalFormula). Least c.in_ok-input-in-Model.input y) (sym low.0) (subst (λ (x : Input). Least x whole) (sym input) found)

pub returns-in-Spent : goal.returns-in-Spent
returns-in-Spent c = λ form is.
    let g = c.args.goal.given.now in
    let e = g.planned.entry in
    let exact = exact_for c.args.goal c.args.whole c.requires.whole form is in
    let stuck = subst (IsLowestOf c.args.whole c.args.budget) c.in-Spent.is c.in_ok-formula.ensures in
    open_stuck e.graph.now e.function.now g.planned.predicates g.planned.plan g.bounds g.ends form c.args.budget c.args.whole c.in-Spent.formula c.in-Spent.history exact stuck
