use Rattle.std.proofs.Common.{[], ◌≡◌, List, not, sym, ap, subst, ◌∙◌, arith}
use Rattle.std.specs.Prelude.{All, slice_get, Some}
use Rattle.std.proofs.lemmas.Option.{get_or_from_slice_get}
use Rattle.circuit.specs.declared.lit.Lit.{Lit}
use Rattle.circuit.specs.Wires.{IsWire}
use Rattle.bit_words.proofs.Steps.{grows_then, grows_within, still, same}
use Rattle.sym_expr.proofs.ElementLemmas.{cells_still}
use Rattle.c_meaning.proofs.Next.{owner_kind}
use Rattle.sym_expr.specs.sym_steps.Steps.{state_in}
use Rattle.sym_expr.proofs.sym_steps.EffectLemmas.{words_still}
use Rattle.sym_expr.proofs.sym_steps.StepLemmas.{some_frames}
use Rattle.sym_expr.proofs.sym_steps.ReturnLemmas.{dest_here, result_there, return_step}
use Rattle.sym_expr.proofs.sym_steps.returning.returned.Goals as goal

pub running-requires : goal.running-requires
running-requires c = rw c.deref.ensures (some_frames c.args.graph.now c.args.circuit.now c.args.state c.well_formed-2.ensures c.requires.states)

pub word_at-word-requires : goal.word_at-word-requires
word_at-word-requires c = rw (c.running.ensures, c.deref.ensures) (result_there c.args.graph.now c.args.circuit.now c.args.state c.well_formed-2.ensures c.requires.states c.requires.many c.args.function.now c.requires.own c.requires.exit c.args.call c.requires.from c.args.edge.now (subst (λ n. slice_get c.args.graph.now.edges n ≡ Some c.args.edge.now) c.requires.follows c.requires.edge) c.args.dest.now c.requires.gives)

pub kind_given-kind-requires : goal.kind_given-kind-requires
kind_given-kind-requires c = owner_kind c.args.graph.now (state_in c.args.circuit.now c.args.state []) c.args.function.now c.well_formed-2.ensures (c.requires.states []) c.requires.own

pub put_to-requires-clause-dest : goal.put_to-requires-clause-dest
put_to-requires-clause-dest c = λ place is.
    rw (c.running-2.ensures, c.deref-2.ensures, c.frames_below-frames.ensures, c.first_cells-store.ensures, c.running.ensures, c.deref.ensures) (dest_here c.args.graph.now c.args.circuit.now c.args.state c.well_formed-2.ensures c.requires.states c.requires.many c.args.function.now c.requires.own c.requires.exit c.args.call c.requires.from c.args.edge.now (subst (λ n. slice_get c.args.graph.now.edges n ≡ Some c.args.edge.now) c.requires.follows c.requires.edge) c.args.dest.now c.requires.gives place is)

pub put_to-requires-clause-word : goal.put_to-requires-clause-word
put_to-requires-clause-word c =
    let P : List Lit → Type 0 = All (IsWire c.args.circuit.now) in
    let there = result_there c.args.graph.now c.args.circuit.now c.args.state c.well_formed-2.ensures c.requires.states c.requires.many c.args.function.now c.requires.own c.requires.exit c.args.call c.requires.from c.args.edge.now (subst (λ n. slice_get c.args.graph.now.edges n ≡ Some c.args.edge.now) c.requires.follows c.requires.edge) c.args.dest.now c.requires.gives in
    let at = rw (c.running.ensures, c.deref.ensures) at c.word_at-word.ensures in
    subst P (get_or_from_slice_get c.args.state.store.cells _ c.word_at-word.result [] at) (c.requires.cells _ [] there)

pub returns-in_err-traps-clause-grows : goal.returns-in_err-traps-clause-grows
returns-in_err-traps-clause-grows c = grows_within _ (grows_then (rw c.kind_given-kind.ensures.kind at c.put_to.ensures.grows) c.inverse.ensures.grows) (omega arith)

pub returns-in_err-step-clause-grows : goal.returns-in_err-step-clause-grows
returns-in_err-step-clause-grows c = grows_within _ (grows_then (rw c.kind_given-kind.ensures.kind at c.put_to.ensures.grows) c.inverse.ensures.grows) (omega arith)

pub returns-clause-grows : goal.returns-clause-grows
returns-clause-grows c = grows_within _ (grows_then (rw c.kind_given-kind.ensures.kind at c.put_to.ensures.grows) c.inverse.ensures.grows) (omega arith)

pub returns-clause-step : goal.returns-clause-step
returns-clause-step c =
    let cells = c.put_to.new.store.cells in
    let moves = c.in_ok-moves.moves in
    let grown = c.inverse.ensures.grows in
    let s = c.args.state in
    let at = rw (c.running.ensures, c.deref.ensures) at c.word_at-word.ensures in
    let made = rw (c.running-2.ensures, c.deref-2.ensures, c.frames_below-frames.ensures, c.first_cells-store.ensures, c.running.ensures, c.deref.ensures) at c.in_ok-moves.ensures.value in
    let count = rw (c.first_cells-store.ensures, c.running.ensures, c.deref.ensures) at c.in_ok-moves.ensures.count in
    rw (c.in_ok-step.ensures, c.frames_below-frames.ensures, c.requires.follows)
    (return_step c.args.graph.now c.args.circuit.now c.args.state c.well_formed-2.ensures c.requires.states c.requires.many c.args.function.now c.requires.own c.requires.exit c.args.call c.requires.from c.args.edge.now (subst (λ n. slice_get c.args.graph.now.edges n ≡ Some c.args.edge.now) c.requires.follows c.requires.edge) c.args.dest.now c.requires.gives c.inverse.new.circuit c.args.answers.now cells c.word_at-word.result moves c.in_ok-traps.traps
    (cells_still grown cells c.in_ok-moves.ensures.cells) count (still grown moves c.in_ok-moves.ensures.wire) c.in_ok-traps.ensures.wire
    (sym (get_or_from_slice_get s.store.cells _ c.word_at-word.result c.word_at-word.result at))
    (λ w. words_still grown cells moves w c.in_ok-moves.ensures.cells c.in_ok-moves.ensures.wire ∙ made w)
    (λ w. c.in_ok-traps.ensures.value w ∙ ap not (sym (same grown moves c.in_ok-moves.ensures.wire w))))
