use Rattle.std.proofs.Common.{List, ap, arith, map, refl, subst, ◌∙◌}
use Rattle.std.specs.List.{AllZip}
use Rattle.bit_words.proofs.Steps.{grows_then, grows_within}
use Rattle.unwinder_reach.specs.unwinding_size.Sizes.{predicates_weight}
use Rattle.sym_expr.specs.Weights.{operations_weight}
use Rattle.sym_expr.specs.declared.sym_steps.state.SymState.{SymState}
use Rattle.sym_expr.specs.declared.sym_steps.state.Way.{Way}
use Rattle.unwinder.specs.Agenda.{entry_at}
use Rattle.unwinder.proofs.WayLaws.{AlongStep}
use Rattle.unwinder.proofs.PlaceLaws.{open_place_is, placed_states, same_placed}
use Rattle.unwinder.proofs.taking.open_place.Goals as goal

pub step-requires-clause-states : goal.step-requires-clause-states
step-requires-clause-states c = placed_states c.args.graph.now c.args.entry c.args.circuit.now c.truths.new.circuit _ c.args.pair.now c.args.met _ c.requires.at c.truths.ensures.grows (same_placed c.args.pair.now c.args.met c.node.result c.from.result c.node.ensures (c.from.ensures ∙ c.taken.ensures))

pub returns-in_err-stepped-clause-grows : goal.returns-in_err-stepped-clause-grows
returns-in_err-stepped-clause-grows c = grows_within _ (grows_then c.truths.ensures.grows c.step.ensures.grows) (omega (arith, ap (predicates_weight c.args.graph.now c.args.predicates.now) c.node.ensures, ap (operations_weight c.args.graph.now) c.node.ensures))

pub returns-in_err-end-clause-grows : goal.returns-in_err-end-clause-grows
returns-in_err-end-clause-grows c = grows_within _ (grows_then (grows_then c.truths.ensures.grows c.step.ensures.grows) c.ended.ensures.grows) (omega (arith, ap (predicates_weight c.args.graph.now c.args.predicates.now) c.node.ensures, ap (operations_weight c.args.graph.now) c.node.ensures))

pub returns-in_err-arrivals-clause-grows : goal.returns-in_err-arrivals-clause-grows
returns-in_err-arrivals-clause-grows c = grows_within _ (grows_then (grows_then (grows_then c.truths.ensures.grows c.step.ensures.grows) c.ended.ensures.grows) c.onward.ensures.grows) (omega (arith, ap (predicates_weight c.args.graph.now c.args.predicates.now) c.node.ensures, ap (operations_weight c.args.graph.now) c.node.ensures))

pub returns-in_err-entries-clause-grows : goal.returns-in_err-entries-clause-grows
returns-in_err-entries-clause-grows c = grows_within _ (grows_then (grows_then (grows_then c.truths.ensures.grows c.step.ensures.grows) c.ended.ensures.grows) c.onward.ensures.grows) (omega (arith, ap (predicates_weight c.args.graph.now c.args.predicates.now) c.node.ensures, ap (operations_weight c.args.graph.now) c.node.ensures))

pub returns-clause-grows : goal.returns-clause-grows
returns-clause-grows c = grows_within _ (grows_then (grows_then (grows_then c.truths.ensures.grows c.step.ensures.grows) c.ended.ensures.grows) c.onward.ensures.grows) (omega (arith, ap (predicates_weight c.args.graph.now c.args.predicates.now) c.node.ensures, ap (operations_weight c.args.graph.now) c.node.ensures))

pub returns-clause-place : goal.returns-clause-place
returns-clause-place c = λ old most g wires met.
    let t = c.in_ok-stepped.stepped in
    let end = c.in_ok-end.end in
    let behind : SymState = record { node = c.node-2.result; frames = t.frames; store = t.store; taken = t.taken } in
    let P : List Way → Type 0 = λ ways. AllZip (AlongStep c.args.graph.now c.ended.new.circuit c.onward.new.circuit c.args.met.guard ways behind) c.args.steps.now c.in_ok-arrivals.arrivals in
    let along = subst P c.deref.ensures c.in_ok-arrivals.ensures.along in
    let literals = c.in_ok-literals.ensures in
    let entries = c.in_ok-entries.ensures ∙ ap (λ n. map (entry_at n c.deref-2.result.now end) c.args.row.now) c.node-3.ensures ∙ ap (λ ls. map (entry_at c.args.pair.now.node ls end) c.args.row.now) c.deref-2.ensures in
    open_place_is c.args.graph.now c.args.predicates.now c.args.entry c.args.ends c.args.answers.now c.args.row.now c.args.pair.now c.args.steps.now
    old c.args.circuit.now c.truths.new.circuit c.step.new.circuit c.ended.new.circuit c.onward.new.circuit c.args.met c.in_ok-literals.literals t end behind _ c.in_ok-arrivals.arrivals c.in_ok-entries.entries most _ _ _ _
    c.well_formed-2.ensures (same_placed c.args.pair.now c.args.met c.node.result c.from.result c.node.ensures (c.from.ensures ∙ c.taken.ensures))
    g c.truths.ensures.grows c.step.ensures.grows c.ended.ensures.grows c.onward.ensures.grows wires met literals.wires literals.count literals.value c.in_ok-stepped.ensures.step
    c.in_ok-end.ensures.wire c.in_ok-end.ensures.value refl refl along entries
