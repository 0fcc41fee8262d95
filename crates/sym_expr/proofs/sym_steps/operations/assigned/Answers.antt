use Rattle.std.proofs.Common.{[], not, sym, ap, subst, ◌∙◌, arith}
use Rattle.cfa.specs.declared.parts.Operation.TheVariants.{Assign}
use Rattle.cfa.specs.Rules.{place_fits}
use Rattle.c_values.proofs.Fitting.{and_left, and_right}
use Rattle.bit_words.proofs.Steps.{grows_then, grows_within, still, same}
use Rattle.sym_expr.proofs.ElementLemmas.{cells_still}
use Rattle.c_meaning.specs.Places.{storage_of}
use Rattle.sym_expr.specs.sym_steps.Operated.{IsOperated}
use Rattle.sym_expr.specs.sym_steps.Steps.{state_in}
use Rattle.sym_expr.proofs.sym_steps.EffectLemmas.{words_still}
use Rattle.sym_expr.proofs.sym_steps.StepLemmas.{some_frames, fits_here, place_here, operands_are, assign_step}
use Rattle.sym_expr.proofs.sym_steps.operations.assigned.Goals as goal

pub running-requires : goal.running-requires
running-requires c = rw c.deref.ensures (some_frames c.args.graph.now c.args.circuit.now c.args.state c.well_formed-2.ensures c.requires.states)

pub assign-requires-clause-place : goal.assign-requires-clause-place
assign-requires-clause-place c =
    let parts = c.args.graph.now in
    let g = c.args.circuit.now in
    let s = c.args.state in
    let fits = operands_are parts g s c.args.at c.args.edge.now c.well_formed-2.ensures c.requires.states c.requires.leaves (Assign c.args.place.now c.args.value.now) c.requires.assigns in
    rw (c.running.ensures, c.deref.ensures) (place_here parts g s c.well_formed-2.ensures c.requires.states c.args.place.now (and_left _ _ fits))

pub assign-requires-clause-value : goal.assign-requires-clause-value
assign-requires-clause-value c =
    let parts = c.args.graph.now in
    let g = c.args.circuit.now in
    let s = c.args.state in
    let fits = operands_are parts g s c.args.at c.args.edge.now c.well_formed-2.ensures c.requires.states c.requires.leaves (Assign c.args.place.now c.args.value.now) c.requires.assigns in
    rw (c.running.ensures, c.deref.ensures) (fits_here parts g s c.well_formed-2.ensures c.requires.states c.args.value.now (and_right (place_fits (storage_of parts (state_in g s [])).room c.args.place.now) _ fits))

pub returns-in_err-traps-clause-grows : goal.returns-in_err-traps-clause-grows
returns-in_err-traps-clause-grows c = grows_within _ (grows_then c.assign.ensures.grows c.inverse.ensures.grows) (omega arith)

pub returns-in_err-step-clause-grows : goal.returns-in_err-step-clause-grows
returns-in_err-step-clause-grows c = grows_within _ (grows_then c.assign.ensures.grows c.inverse.ensures.grows) (omega arith)

pub returns-clause-grows : goal.returns-clause-grows
returns-clause-grows c = grows_within _ (grows_then c.assign.ensures.grows c.inverse.ensures.grows) (omega arith)

pub returns-clause-step : goal.returns-clause-step
returns-clause-step c =
    let parts = c.args.graph.now in
    let g = c.args.circuit.now in
    let s = c.args.state in
    let new = c.inverse.new.circuit in
    let cells = c.assign.new.store.cells in
    let moves = c.in_ok-moves.moves in
    let grown = c.inverse.ensures.grows in
    let made = rw (c.running.ensures, c.deref.ensures) at c.in_ok-moves.ensures.value in
    subst (IsOperated parts g new c.args.answers.now s c.args.at c.args.edge.now) (sym c.in_ok-step.ensures)
    (assign_step parts g s c.args.at c.args.edge.now c.well_formed-2.ensures c.requires.states c.requires.leaves new c.args.answers.now cells c.args.place.now c.args.value.now moves c.in_ok-traps.traps
    (cells_still grown cells c.in_ok-moves.ensures.cells) c.in_ok-moves.ensures.count (still grown moves c.in_ok-moves.ensures.wire) c.in_ok-traps.ensures.wire c.requires.assigns
    (λ w. words_still grown cells moves w c.in_ok-moves.ensures.cells c.in_ok-moves.ensures.wire ∙ made w)
    (λ w. c.in_ok-traps.ensures.value w ∙ ap not (sym (same grown moves c.in_ok-moves.ensures.wire w))))
