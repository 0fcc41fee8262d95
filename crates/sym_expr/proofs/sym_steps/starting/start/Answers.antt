use Rattle.std.proofs.Common.{◌≡◌, ℕ, List, ◌++◌, [], ◌∷◌, None, length, sym, subst, ap, ◌∙◌}
use Rattle.std.specs.Prelude.{slice_get}
use Rattle.std.proofs.lemmas.List.{length-map}
use Rattle.std.proofs.lemmas.Option.{same_Some}
use Rattle.bit_words.specs.Words.{word_value}
use Rattle.cfa.proofs.Exits.{taken}
use Rattle.cfa.specs.declared.parts.Function.{Function}
use Rattle.cfa.specs.declared.state.Frame.{Frame}
use Rattle.cfa.specs.States.{IsState}
use Rattle.c_meaning.specs.Starts.{first_frame, first_globals}
use Rattle.sym_expr.specs.Stores.{cells_in}
use Rattle.sym_expr.specs.sym_steps.Cells.{new_cells}
use Rattle.sym_expr.specs.sym_steps.Starts.{CanStartWith}
use Rattle.sym_expr.proofs.sym_steps.StartLemmas.{begins}
use Rattle.sym_expr.proofs.sym_steps.starting.start.Goals as goal

pub returns-clause-states : goal.returns-clause-states
returns-clause-states c = λ gates w.
    let parts = c.args.graph.now in
    let words = c.args.words.now in
    let f = c.function_of-function.result.now in
    let can = taken (λ (q : Function). CanStartWith q words) (slice_get parts.functions c.args.entry) c.requires in
    let same = same_Some can.0 f (sym can.1 ∙ c.function_of-function.ensures) in
    let good = subst (λ (q : Function). CanStartWith q words) same can.2 in
    let values = cells_in gates words w in
    let base : length c.globals.result.now ≡ length parts.globals = ap length c.globals.ensures in
    let frames : c.push.new.self ≡ first_frame parts ∷ [] = c.in_ok-push.ensures.ok ∙ (λ i. c.new-frames.ensures i ++ record { call = None; base = base i; arrays = c.new.ensures i } ∷ []) in
    let globals : cells_in gates c.in_ok-globals.globals w ≡ first_globals parts = c.in_ok-globals.ensures.cells gates w ∙ c.deref.ensures.value ∙ c.in_ok-first_values.ensures in
    let cells : cells_in gates c.in_ok-store.store.cells w ≡ first_globals parts ++ new_cells f.cells values = c.in_ok-store.ensures.cells gates w ∙ ap (λ xs. xs ++ new_cells f.cells values) globals in
    let long : length values ≡ length f.parameters = length-map words (λ v. word_value gates v w) ∙ good.0 in
    let P : List Frame → Type 0 = λ fs. IsState parts (record { node = f.entry; frames = fs; cells = cells_in gates c.in_ok-store.store.cells w; taken = 0 }) in
    let Q : List ℕ → Type 0 = λ cs. IsState parts (record { node = f.entry; frames = first_frame parts ∷ []; cells = cs; taken = 0 }) in
    subst P (sym frames) (subst Q (sym cells) (begins parts c.args.entry f values c.well_formed-2.ensures c.function_of-function.ensures long good.1))
