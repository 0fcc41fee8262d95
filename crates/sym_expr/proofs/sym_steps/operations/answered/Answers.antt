use Rattle.std.proofs.Common.{[], not, sym, ap, subst, ◌∙◌, arith}
use Rattle.std.specs.Prelude.{IsTrue}
use Rattle.cfa.specs.declared.parts.Operation.TheVariants.{Answer}
use Rattle.cfa.specs.Graph.{dest_fits}
use Rattle.bit_words.proofs.Steps.{grows_then, grows_within, still, same}
use Rattle.sym_expr.proofs.ElementLemmas.{cells_still}
use Rattle.c_meaning.specs.Places.{storage_of}
use Rattle.sym_expr.specs.sym_steps.Operated.{IsOperated}
use Rattle.sym_expr.specs.sym_steps.Steps.{state_in}
use Rattle.sym_expr.proofs.sym_steps.EffectLemmas.{words_still}
use Rattle.sym_expr.proofs.sym_steps.StepLemmas.{some_frames, place_here, operands_are, answer_step}
use Rattle.sym_expr.proofs.sym_steps.operations.answered.Goals as goal

pub running-requires : goal.running-requires
running-requires c = rw c.deref.ensures (some_frames c.args.graph.now c.args.circuit.now c.args.state c.well_formed-2.ensures c.requires.states)

pub put_to-requires-clause-dest : goal.put_to-requires-clause-dest
put_to-requires-clause-dest c = λ place is.
    let parts = c.args.graph.now in
    let g = c.args.circuit.now in
    let s = c.args.state in
    let fits = operands_are parts g s c.args.at c.args.edge.now c.well_formed-2.ensures c.requires.states c.requires.leaves (Answer c.args.input c.args.dest.now) c.requires.takes in
    let own = subst (λ d. IsTrue (dest_fits (storage_of parts (state_in g s [])).room d)) is fits in
    rw (c.running.ensures, c.deref.ensures) (place_here parts g s c.well_formed-2.ensures c.requires.states place own)

pub returns-in_err-traps-clause-grows : goal.returns-in_err-traps-clause-grows
returns-in_err-traps-clause-grows c = grows_within _ (grows_then c.put_to.ensures.grows c.inverse.ensures.grows) (omega arith)

pub returns-in_err-step-clause-grows : goal.returns-in_err-step-clause-grows
returns-in_err-step-clause-grows c = grows_within _ (grows_then c.put_to.ensures.grows c.inverse.ensures.grows) (omega arith)

pub returns-clause-grows : goal.returns-clause-grows
returns-clause-grows c = grows_within _ (grows_then c.put_to.ensures.grows c.inverse.ensures.grows) (omega arith)

pub returns-clause-step : goal.returns-clause-step
returns-clause-step c =
    let parts = c.args.graph.now in
    let g = c.args.circuit.now in
    let s = c.args.state in
    let new = c.inverse.new.circuit in
    let cells = c.put_to.new.store.cells in
    let moves = c.in_ok-moves.moves in
    let grown = c.inverse.ensures.grows in
    let made = rw (c.running.ensures, c.deref.ensures) at c.in_ok-moves.ensures.value in
    subst (IsOperated parts g new c.args.answers.now s c.args.at c.args.edge.now) (sym c.in_ok-step.ensures)
    (answer_step parts g new s c.args.at c.args.edge.now c.well_formed-2.ensures c.requires.states c.requires.leaves c.args.answers.now cells c.args.input c.args.function.now c.args.dest.now c.answer_word-word.result moves c.in_ok-traps.traps
    (cells_still grown cells c.in_ok-moves.ensures.cells) c.in_ok-moves.ensures.count (still grown moves c.in_ok-moves.ensures.wire) c.in_ok-traps.ensures.wire c.requires.takes c.requires.function
    (λ w. words_still grown cells moves w c.in_ok-moves.ensures.cells c.in_ok-moves.ensures.wire ∙ made w)
    (λ w. c.answer_word-word.ensures.value g w c.requires.words)
    (λ w. c.in_ok-traps.ensures.value w ∙ ap not (sym (same grown moves c.in_ok-moves.ensures.wire w))))
