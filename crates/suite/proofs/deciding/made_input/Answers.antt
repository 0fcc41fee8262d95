use Rattle.std.proofs.Common.{◌≡◌, List, map, sym, ap, subst, ◌∙◌, All}
use Rattle.c_meaning.specs.Runs.{IsRun}
use Rattle.c_meaning.specs.declared.input.Input.{Input}
use Rattle.c_values.specs.Kind.{IsKind}
use Rattle.c_values.specs.declared.kinds.Kind.{Kind}
use Rattle.cfa.specs.Graph.{IsGraph}
use Rattle.suite_problem.specs.declared.goal.Goal.{Goal}
use Rattle.goal_formula.specs.Bits.{assignment, input_from}
use Rattle.path_runner.specs.Paths.{record_of}
use Rattle.unwinder.proofs.Made.{parameter_kinds}
use Rattle.suite.specs.Seeking.{HasRun, IsMadeAs}
use Rattle.suite.proofs.Models.{has_run, hits, made_for, rows_long}
use Rattle.suite.proofs.SeekingLaws.{exact_for}
use Rattle.suite.proofs.Trimming.{values}
use Rattle.suite.proofs.deciding.made_input.Goals as goal

abbrev kinds_at : Goal → List Kind
kinds_at x = x.given.now.planned.entry.function.now.parameters

abbrev GraphAt : Goal → Type 0
GraphAt x = IsGraph x.given.now.planned.entry.graph.now

pub input_of-requires-clause-kinds : goal.input_of-requires-clause-kinds
input_of-requires-clause-kinds c =
    let e = c.args.sought.now.goal.given.now.planned.entry in
    let kinds = c.deref.ensures ∙ ap kinds_at c.goal.ensures in
    subst (All IsKind) (sym kinds) (parameter_kinds e.graph.now e.number e.function.now (subst GraphAt c.goal.ensures c.well_formed-2.ensures) e.there)

pub input_of-requires-clause-words : goal.input_of-requires-clause-words
input_of-requires-clause-words c =
    let kinds = c.deref.ensures ∙ ap kinds_at c.goal.ensures in
    c.requires.exact.exact.shape.words ∙ ap (λ (ks : List Kind). map (λ (kind : Kind). kind.width) ks) (sym kinds)

pub input_of-requires-clause-answers : goal.input_of-requires-clause-answers
input_of-requires-clause-answers c = rows_long c.args.sought.now.goal.given.now.bounds.answers c.args.formula.now.answers c.requires.exact.exact.shape.answers_are

pub run_of-requires : goal.run_of-requires
run_of-requires c =
    let x = c.args.sought.now.goal in
    let g = x.given.now in
    let e = g.planned.entry in
    let model = c.args.model.now in
    let formula = c.args.formula.now in
    let graph = subst GraphAt c.goal.ensures c.well_formed-2.ensures in
    let kinds = c.deref.ensures ∙ ap kinds_at c.goal.ensures in
    let is : c.in_ok-input.input ≡ input_from (assignment model) (kinds_at x) formula = c.in_ok-input.ensures ∙ ap (λ (ks : List Kind). input_from (assignment model) ks formula) kinds in
    let has = has_run e.graph.now g.planned.predicates e.function.now e.number g.bounds g.ends g.planned.plan c.requires.exact.form formula model graph e.there e.startable c.requires.exact.exact c.requires.model in
    subst (HasRun g) (sym is) has

pub returns : goal.returns
returns c = λ form own.
    let x = c.args.sought.now.goal in
    let g = x.given.now in
    let e = g.planned.entry in
    let p = g.planned.predicates in
    let model = c.args.model.now in
    let formula = c.args.formula.now in
    let graph = subst GraphAt c.goal.ensures c.well_formed-2.ensures in
    let kinds = c.deref.ensures ∙ ap kinds_at c.goal.ensures in
    let exact = exact_for x formula c.requires.exact form own in
    let found = input_from (assignment model) (kinds_at x) formula in
    let is : c.in_ok-input.input ≡ found = c.in_ok-input.ensures ∙ ap (λ (ks : List Kind). input_from (assignment model) ks formula) kinds in
    let hit = hits e.graph.now p e.function.now e.number g.bounds g.ends g.planned.plan form formula model graph e.there e.startable exact c.requires.model in
    let is_run : IsRun e.graph.now e.function.now c.in_ok-input.input g.ends hit.run = subst (λ (y : Input). IsRun e.graph.now e.function.now y g.ends hit.run) (sym is) hit.is_run in
    let recorded : c.in_ok-run.run' ≡ record_of e.graph.now found p hit.run = c.in_ok-run.ensures hit.run is_run ∙ ap (λ (y : Input). record_of e.graph.now y p hit.run) is in
    let made = made_for e.graph.now p e.function.now e.number g.bounds g.ends g.planned.plan form formula model graph e.there e.startable exact c.requires.model c.in_ok-run.run' recorded in
    let words : found.words ≡ c.in_ok-input.input.words = sym (ap (λ (y : Input). y.words) is) in
    let answers : values c.in_ok-run.run'.taken ≡ c.in_ok-answers.answers = sym (c.in_ok-answers.ensures ∙ ap values c.deref-2.ensures) in
    let inputs : ◌≡◌ {A = Input} (record { words = found.words; answers = values c.in_ok-run.run'.taken }) (record { words = c.in_ok-input.input.words; answers = c.in_ok-answers.answers }) = λ i. record { words = words i; answers = answers i } in
    subst (IsMadeAs x form) inputs made
