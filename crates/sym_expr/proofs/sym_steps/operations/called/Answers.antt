use Rattle.std.proofs.Common.{◌≡◌, ℕ, List, ◌++◌, Some, map, not, sym, ap, subst, ◌∙◌, arith}
use Rattle.cfa.specs.declared.state.Frame.{Frame}
use Rattle.cfa.specs.Values.{array_start}
use Rattle.c_meaning.specs.Starts.{frame_cells}
use Rattle.sym_expr.specs.Stores.{cells_in}
use Rattle.sym_expr.specs.sym_steps.Steps.{running_of}
use Rattle.bit_words.proofs.Steps.{grows_then, grows_within, still, same}
use Rattle.sym_expr.proofs.ElementLemmas.{cells_still, cells_later}
use Rattle.sym_expr.specs.sym_steps.Operated.{IsOperated}
use Rattle.sym_expr.proofs.sym_steps.EffectLemmas.{words_still}
use Rattle.sym_expr.proofs.sym_steps.StepLemmas.{some_frames, word_here, start_small, cells_few, call_step, deep_step, step_of}
use Rattle.sym_expr.proofs.sym_steps.operations.called.Goals as goal

pub returns-then-len-ge-MOST_FRAMES-clause-step : goal.returns-then-len-ge-MOST_FRAMES-clause-step
returns-then-len-ge-MOST_FRAMES-clause-step c =
    let g = c.args.circuit.now in
    subst (IsOperated c.args.graph.now g g c.args.answers.now c.args.state c.args.at c.args.edge.now) (sym c.no_way.ensures)
    (deep_step c.args.graph.now g c.args.state c.args.at c.args.edge.now c.well_formed-2.ensures c.requires.states c.requires.leaves c.args.callee c.args.words.now c.args.arrays.now c.args.function.now c.requires.calls c.requires.function c.args.answers.now
    (omega arith) c.requires.cells)

pub running-requires : goal.running-requires
running-requires c = rw c.deref.ensures (some_frames c.args.graph.now c.args.circuit.now c.args.state c.well_formed-2.ensures c.requires.states)

pub starts_of-requires : goal.starts_of-requires
starts_of-requires c =
    rw (c.running.ensures, c.deref.ensures) (start_small c.args.graph.now c.args.circuit.now c.args.state c.args.at c.args.edge.now c.well_formed-2.ensures c.requires.states c.requires.leaves c.args.callee c.args.words.now c.args.arrays.now c.args.function.now c.requires.calls c.requires.function)

pub running-requires-2 : goal.running-requires-2
running-requires-2 c = rw c.deref-2.ensures (some_frames c.args.graph.now c.args.circuit.now c.args.state c.well_formed-2.ensures c.requires.states)

pub translate_all-requires-clause-fits : goal.translate_all-requires-clause-fits
translate_all-requires-clause-fits c =
    rw (c.running-2.ensures, c.deref-2.ensures) (word_here c.args.graph.now c.args.circuit.now c.args.state c.args.at c.args.edge.now c.well_formed-2.ensures c.requires.states c.requires.leaves c.args.callee c.args.words.now c.args.arrays.now c.args.function.now c.requires.calls c.requires.function)

pub returns-in_err-traps-clause-grows : goal.returns-in_err-traps-clause-grows
returns-in_err-traps-clause-grows c = grows_within _ (grows_then c.translate_all.ensures.grows c.inverse.ensures.grows) (omega arith)

pub overflow_cast-base : goal.overflow_cast-base
overflow_cast-base c =
    let few = cells_few c.args.graph.now c.args.circuit.now c.args.state c.args.at c.args.edge.now c.well_formed-2.ensures c.requires.states c.requires.leaves c.args.callee c.args.words.now c.args.arrays.now c.args.function.now c.requires.calls c.requires.function in
    omega arith

pub returns-in_err-store-clause-grows : goal.returns-in_err-store-clause-grows
returns-in_err-store-clause-grows c = grows_within _ (grows_then c.translate_all.ensures.grows c.inverse.ensures.grows) (omega arith)

pub returns-in_err-push-clause-grows : goal.returns-in_err-push-clause-grows
returns-in_err-push-clause-grows c = grows_within _ (grows_then c.translate_all.ensures.grows c.inverse.ensures.grows) (omega arith)

pub returns-in_err-step-clause-grows : goal.returns-in_err-step-clause-grows
returns-in_err-step-clause-grows c = grows_within _ (grows_then c.translate_all.ensures.grows c.inverse.ensures.grows) (omega arith)

pub returns-clause-grows : goal.returns-clause-grows
returns-clause-grows c = grows_within _ (grows_then c.translate_all.ensures.grows c.inverse.ensures.grows) (omega arith)

pub returns-clause-step : goal.returns-clause-step
returns-clause-step c =
    let parts = c.args.graph.now in
    let g = c.args.circuit.now in
    let s = c.args.state in
    let g1 = c.translate_all.new.circuit in
    let new = c.inverse.new.circuit in
    let values = c.in_ok-values.values in
    let fine = c.in_ok-values.fine in
    let traps = c.in_ok-traps.traps in
    let f = c.args.function.now in
    let cells = c.in_ok-store.store.cells in
    let last = c.inverse.ensures.grows in
    let grown = grows_then c.translate_all.ensures.grows last in
    let starts : (held : List ℕ) → c.in_ok-starts.starts ≡ map (array_start held (running_of s.frames)) c.args.arrays.now = rw (c.running.ensures, c.deref.ensures) at c.in_ok-starts.ensures in
    let told = rw (c.running-2.ensures, c.deref-2.ensures) at c.in_ok-values.ensures.value in
    let made = rw c.deref-3.ensures at c.in_ok-store.ensures.cells in
    let wires = rw c.deref-3.ensures at c.in_ok-store.ensures.wires in
    let frame : Frame = record { call = Some c.args.at; base = c.len-base.result; arrays = c.in_ok-starts.starts } in
    let P : List Frame → Type 0 = λ frames. IsOperated parts g new c.args.answers.now s c.args.at c.args.edge.now (step_of c.args.at fine traps frames cells s.taken) in
    subst (IsOperated parts g new c.args.answers.now s c.args.at c.args.edge.now) (sym c.in_ok-step.ensures)
    (subst P (sym c.in_ok-push.ensures.ok)
    (call_step parts g s c.args.at c.args.edge.now c.well_formed-2.ensures c.requires.states c.requires.leaves c.args.callee c.args.words.now c.args.arrays.now f c.requires.calls c.requires.function new c.args.answers.now cells values c.in_ok-starts.starts c.len-base.result fine traps
    (omega arith) (wires new (cells_still grown s.store.cells c.requires.cells) (cells_still last values c.in_ok-values.ensures.words)) c.in_ok-values.ensures.count (still last fine c.in_ok-values.ensures.wire) c.in_ok-traps.ensures.wire starts c.len-base.ensures
    (λ w. made new w ∙ ap (λ xs. xs ++ frame_cells f (cells_in new values w)) (cells_later grown s.store.cells c.requires.cells w))
    (λ w. words_still last values fine w c.in_ok-values.ensures.words c.in_ok-values.ensures.wire ∙ told w)
    (λ w. c.in_ok-traps.ensures.value w ∙ ap not (sym (same last fine c.in_ok-values.ensures.wire w)))))
