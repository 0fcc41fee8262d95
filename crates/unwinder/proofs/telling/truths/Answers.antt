use Rattle.std.proofs.Common.{◌+◌, ◌≤◌, ◌^◌, [], length, sym, subst, ◌∙◌}
use Rattle.std.proofs.lemmas.Result.{IfOk-weaker}
use Rattle.bit_words.specs.Words.{Grows}
use Rattle.unwinder.proofs.Truths.{node_there, rows_fit, truths_are, weight_is}
use Rattle.unwinder.proofs.telling.truths.Goals as goal

pub bounds-nodes-state : goal.bounds-nodes-state
bounds-nodes-state c = rw c.nodes.ensures (node_there c.args.graph.now c.args.circuit.now c.args.state.now c.well_formed-2.ensures c.requires.states)

pub scoped_truths-requires-clause-frames : goal.scoped_truths-requires-clause-frames
scoped_truths-requires-clause-frames c = (c.requires.states []).some_frame

pub scoped_truths-requires-clause-fits : goal.scoped_truths-requires-clause-fits
scoped_truths-requires-clause-fits c = rows_fit c.args.graph.now c.args.circuit.now c.args.state.now c.args.predicates.now c.nodes.result.now _ c.deref.result.now c.well_formed-2.ensures c.requires.states c.nodes.ensures c.deref.ensures c.requires.predicates

pub scoped_truths-requires-clause-room : goal.scoped_truths-requires-clause-room
scoped_truths-requires-clause-room c =
    subst (λ n. length c.args.circuit.now + n ≤ 2 ^ 30) (sym (weight_is c.args.graph.now c.args.circuit.now c.args.state.now c.args.predicates.now c.nodes.result.now (record { function = 0; file = 0; line = 0; scope = 0; depth = 0 }) c.deref.result.now c.well_formed-2.ensures c.requires.states c.nodes.ensures c.deref.ensures)) c.requires.room

pub returns-clause-grows : goal.returns-clause-grows
returns-clause-grows c =
    subst (Grows c.args.circuit.now c.scoped_truths.new.circuit) (weight_is c.args.graph.now c.args.circuit.now c.args.state.now c.args.predicates.now c.nodes.result.now (record { function = 0; file = 0; line = 0; scope = 0; depth = 0 }) c.deref.result.now c.well_formed-2.ensures c.requires.states c.nodes.ensures c.deref.ensures) c.scoped_truths.ensures.grows

pub returns-clause-value : goal.returns-clause-value
returns-clause-value c =
    IfOk-weaker c.scoped_truths.result _ _ (λ ls is w.
    is w ∙ truths_are c.args.graph.now c.args.circuit.now c.args.state.now c.args.predicates.now c.nodes.result.now (record { function = 0; file = 0; line = 0; scope = 0; depth = 0 }) c.deref.result.now c.well_formed-2.ensures c.requires.states c.nodes.ensures c.deref.ensures w) c.scoped_truths.ensures.value
