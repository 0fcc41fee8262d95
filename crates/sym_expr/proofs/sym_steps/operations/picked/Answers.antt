use Rattle.std.proofs.Common.{Bool, not, ◌&&◌, ap, ◌∙◌, arith}
use Rattle.circuit.specs.Truth.{World}
use Rattle.circuit.specs.Wires.{lit_holds}
use Rattle.bit_words.proofs.Steps.{grows_then, grows_within, still, same}
use Rattle.sym_expr.proofs.ElementLemmas.{cells_still, cells_later}
use Rattle.sym_expr.proofs.sym_steps.StepLemmas.{some_frames, fits_here, guard_fits, picked_step}
use Rattle.sym_expr.proofs.sym_steps.operations.picked.Goals as goal

pub running-requires : goal.running-requires
running-requires c = rw c.deref.ensures (some_frames c.args.graph.now c.args.circuit.now c.args.state c.well_formed-2.ensures c.requires.states)

pub condition-requires-clause-fits : goal.condition-requires-clause-fits
condition-requires-clause-fits c =
    rw (c.running.ensures, c.deref.ensures) (fits_here c.args.graph.now c.args.circuit.now c.args.state c.well_formed-2.ensures c.requires.states c.args.test.now
    (guard_fits c.args.graph.now c.args.circuit.now c.args.circuit.now c.args.state c.args.yes_at c.args.no_at c.args.test.now c.well_formed-2.ensures c.requires.states c.requires.yes c.requires.no))

pub returns-in_err-yes-clause-grows : goal.returns-in_err-yes-clause-grows
returns-in_err-yes-clause-grows c = grows_within _ (grows_then c.condition.ensures.grows c.both.ensures.grows) (omega arith)

pub returns-in_err-falsehood-clause-grows : goal.returns-in_err-falsehood-clause-grows
returns-in_err-falsehood-clause-grows c = grows_within _ (grows_then (grows_then c.condition.ensures.grows c.both.ensures.grows) c.inverse.ensures.grows) (omega arith)

pub returns-in_err-no-clause-grows : goal.returns-in_err-no-clause-grows
returns-in_err-no-clause-grows c = grows_within _ (grows_then (grows_then (grows_then c.condition.ensures.grows c.both.ensures.grows) c.inverse.ensures.grows) c.both-2.ensures.grows) (omega arith)

pub returns-in_err-traps-clause-grows : goal.returns-in_err-traps-clause-grows
returns-in_err-traps-clause-grows c = grows_within _ (grows_then (grows_then (grows_then (grows_then c.condition.ensures.grows c.both.ensures.grows) c.inverse.ensures.grows) c.both-2.ensures.grows) c.inverse-2.ensures.grows) (omega arith)

pub returns-in_err-ways-clause-grows : goal.returns-in_err-ways-clause-grows
returns-in_err-ways-clause-grows c = grows_within _ (grows_then (grows_then (grows_then (grows_then c.condition.ensures.grows c.both.ensures.grows) c.inverse.ensures.grows) c.both-2.ensures.grows) c.inverse-2.ensures.grows) (omega arith)

pub returns-clause-grows : goal.returns-clause-grows
returns-clause-grows c = grows_within _ (grows_then (grows_then (grows_then (grows_then c.condition.ensures.grows c.both.ensures.grows) c.inverse.ensures.grows) c.both-2.ensures.grows) c.inverse-2.ensures.grows) (omega arith)

pub returns-clause-step : goal.returns-clause-step
returns-clause-step c =
    let parts = c.args.graph.now in
    let g = c.args.circuit.now in
    let s = c.args.state in
    let g1 = c.condition.new.circuit in
    let fine = c.in_ok-truth.fine in
    let truth = c.in_ok-truth.truth in
    let wires = c.in_ok-truth.ensures.wires in
    let to2 = c.both.ensures.grows in
    let to3 = grows_then to2 c.inverse.ensures.grows in
    let to4 = grows_then to3 c.both-2.ensures.grows in
    let from2 = grows_then (grows_then c.inverse.ensures.grows c.both-2.ensures.grows) c.inverse-2.ensures.grows in
    let all = grows_then (grows_then c.condition.ensures.grows to4) c.inverse-2.ensures.grows in
    let told = rw (c.running.ensures, c.deref.ensures) at c.in_ok-truth.ensures.value in
    let goes_no = λ (w : World). same c.inverse-2.ensures.grows c.in_ok-no.no c.in_ok-no.ensures.wire w ∙ c.in_ok-no.ensures.value w
    ∙ ap (λ (p : Bool). p && lit_holds c.inverse.new.circuit c.in_ok-falsehood.falsehood w) (same to3 fine wires.1 w)
    ∙ ap (λ (p : Bool). lit_holds g1 fine w && p) (c.in_ok-falsehood.ensures.value w ∙ ap not (same to2 truth wires.0 w)) in
    rw c.in_ok-ways.ensures
    (picked_step parts g c.inverse-2.new.circuit s c.args.yes_at c.args.no_at c.args.test.now c.well_formed-2.ensures c.requires.states c.requires.yes c.requires.no c.args.answers.now c.in_ok-yes.yes c.in_ok-no.no c.in_ok-traps.traps
    (λ w. lit_holds g1 fine w) (λ w. lit_holds g1 truth w) (λ w. cells_later all s.store.cells c.requires.cells w) (cells_still all s.store.cells c.requires.cells)
    (still from2 c.in_ok-yes.yes c.in_ok-yes.ensures.wire) (still c.inverse-2.ensures.grows c.in_ok-no.no c.in_ok-no.ensures.wire) c.in_ok-traps.ensures.wire told
    (λ w. same from2 c.in_ok-yes.yes c.in_ok-yes.ensures.wire w ∙ c.in_ok-yes.ensures.value w) goes_no
    (λ w. c.in_ok-traps.ensures.value w ∙ ap not (same to4 fine wires.1 w)))
