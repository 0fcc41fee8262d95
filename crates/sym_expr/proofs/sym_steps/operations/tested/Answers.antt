use Rattle.std.proofs.Common.{not, sym, ap, subst, ◌∙◌, arith}
use Rattle.circuit.specs.declared.lit.Lit.{Lit}
use Rattle.circuit.specs.Truth.{World}
use Rattle.circuit.specs.Wires.{lit_holds}
use Rattle.cfa.specs.declared.parts.Operation.TheVariants.{Assert, Assume}
use Rattle.std.specs.Prelude.{if◌then◌else◌}
use Rattle.bit_words.proofs.Steps.{grows_then, grows_within, still, same}
use Rattle.sym_expr.proofs.ElementLemmas.{cells_still, cells_later}
use Rattle.sym_expr.specs.sym_steps.Operated.{IsOperated}
use Rattle.sym_expr.proofs.sym_steps.StepLemmas.{some_frames, fits_here, assert_step, assume_step, test_fits}
use Rattle.sym_expr.proofs.sym_steps.operations.tested.Goals as goal
use Rattle.sym_expr.proofs.sym_steps.operations.tested.Goals.{then-is_assertion, else-is_assertion}

pub running-requires : goal.running-requires
running-requires c = rw c.deref.ensures (some_frames c.args.graph.now c.args.circuit.now c.args.state c.well_formed-2.ensures c.requires.states)

pub condition-requires-clause-fits : goal.condition-requires-clause-fits
condition-requires-clause-fits c =
    rw (c.running.ensures, c.deref.ensures) (fits_here c.args.graph.now c.args.circuit.now c.args.state c.well_formed-2.ensures c.requires.states c.args.test.now
    (test_fits c.args.graph.now c.args.circuit.now c.args.state c.args.at c.args.edge.now c.well_formed-2.ensures c.requires.states c.requires.leaves c.args.test.now c.args.is_assertion c.requires.tests))

pub returns-in_err-moves-clause-grows : goal.returns-in_err-moves-clause-grows
returns-in_err-moves-clause-grows c = grows_within _ (grows_then c.condition.ensures.grows c.both.ensures.grows) (omega arith)

pub returns-in_err-traps-clause-grows : goal.returns-in_err-traps-clause-grows
returns-in_err-traps-clause-grows c = grows_within _ (grows_then (grows_then c.condition.ensures.grows c.both.ensures.grows) c.inverse.ensures.grows) (omega arith)

pub returns-in_err-step-clause-grows : goal.returns-in_err-step-clause-grows
returns-in_err-step-clause-grows c = grows_within _ (grows_then (grows_then c.condition.ensures.grows c.both.ensures.grows) c.inverse.ensures.grows) (omega arith)

pub returns-clause-grows : goal.returns-clause-grows
returns-clause-grows c = grows_within _ (grows_then (grows_then c.condition.ensures.grows c.both.ensures.grows) c.inverse.ensures.grows) (omega arith)

pub returns-clause-step : goal.returns-clause-step
returns-clause-step c =
    let parts = c.args.graph.now in
    let g = c.args.circuit.now in
    let s = c.args.state in
    let g1 = c.condition.new.circuit in
    let g2 = c.both.new.circuit in
    let new = c.inverse.new.circuit in
    let moves = c.in_ok-moves.moves in
    let fine = c.in_ok-truth.fine in
    let truth = c.in_ok-truth.truth in
    let last = c.inverse.ensures.grows in
    let wires = c.in_ok-truth.ensures.wires in
    let grown = grows_then (grows_then c.condition.ensures.grows c.both.ensures.grows) last in
    let told = rw (c.running.ensures, c.deref.ensures) at c.in_ok-truth.ensures.value in
    let goes = λ (w : World). same last moves c.in_ok-moves.ensures.wire w ∙ c.in_ok-moves.ensures.value w in
    let turned = c.in_ok-traps.ensures.value in
    subst (IsOperated parts g new c.args.answers.now s c.args.at c.args.edge.now) (sym c.in_ok-step.ensures)
    (elim c.if-is_assertion.branch [
      | then-is_assertion v ↦
          assert_step parts g new s c.args.at c.args.edge.now c.well_formed-2.ensures c.requires.states c.requires.leaves c.args.answers.now c.args.test.now moves c.in_ok-traps.traps (λ w. lit_holds g1 fine w) (λ w. lit_holds g1 truth w)
          (λ w. cells_later grown s.store.cells c.requires.cells w) (cells_still grown s.store.cells c.requires.cells) (still last moves c.in_ok-moves.ensures.wire) c.in_ok-traps.ensures.wire
          (c.requires.tests ∙ ap (λ b. if b then Assert c.args.test.now else Assume c.args.test.now) v.if-is_assertion.true) told goes
          (λ w. turned w ∙ ap (λ (l : Lit). not (lit_holds g2 l w)) v.goes_on-is ∙ ap not (sym (same last moves c.in_ok-moves.ensures.wire w)))
      | else-is_assertion v ↦
          assume_step parts g new s c.args.at c.args.edge.now c.well_formed-2.ensures c.requires.states c.requires.leaves c.args.answers.now c.args.test.now moves c.in_ok-traps.traps (λ w. lit_holds g1 fine w) (λ w. lit_holds g1 truth w)
          (λ w. cells_later grown s.store.cells c.requires.cells w) (cells_still grown s.store.cells c.requires.cells) (still last moves c.in_ok-moves.ensures.wire) c.in_ok-traps.ensures.wire
          (c.requires.tests ∙ ap (λ b. if b then Assert c.args.test.now else Assume c.args.test.now) v.if-is_assertion.false) told goes
          (λ w. turned w ∙ ap (λ (l : Lit). not (lit_holds g2 l w)) v.goes_on-is ∙ ap not (same c.both.ensures.grows fine wires.1 w))
    ])
