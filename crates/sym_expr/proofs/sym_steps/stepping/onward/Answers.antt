use Rattle.std.proofs.Common.{[], ◌≡◌, ap, get_or, sym, subst, ◌∙◌, arith}
use Rattle.std.specs.Prelude.{slice_get}
use Rattle.std.proofs.lemmas.Option.{slice_get_within}
use Rattle.std.proofs.lemmas.Result.{IfOk-weaker}
use Rattle.bit_words.proofs.Steps.{grows_within}
use Rattle.cfa.proofs.Exits.{taken}
use Rattle.c_meaning.specs.declared.input.Input.{Input}
use Rattle.c_meaning.specs.declared.stepped.Stepped.{Stepped}
use Rattle.cfa.specs.declared.state.State.{State}
use Rattle.c_meaning.specs.Steps.{onward, operated, picked}
use Rattle.cfa.specs.Table.{outgoing_of}
use Rattle.sym_expr.specs.sym_steps.Steps.{IsStep, state_in}
use Rattle.sym_expr.proofs.sym_steps.NodeLemmas.{edge_weighs, row_leaves, row_edge, row_continues, row_guards, row_some, row_two, onward_one, node_there}
use Rattle.sym_expr.proofs.sym_steps.stepping.onward.Goals as goal

pub outgoing-requires : goal.outgoing-requires
outgoing-requires c = node_there c.args.graph.now (state_in c.args.circuit.now c.args.state []) c.well_formed-2.ensures (c.requires.states [])

pub edge_of-edge-requires : goal.edge_of-edge-requires
edge_of-edge-requires c =
    let l = taken _ (slice_get c.args.graph.now.edges (get_or c.outgoing.result.now 0 0)) (row_leaves c.args.graph.now (state_in c.args.circuit.now c.args.state []) c.well_formed-2.ensures c.requires.inner c.outgoing.result.now c.outgoing.ensures 0 (omega arith)) in
    slice_get_within c.args.graph.now.edges _ l.0 l.1

pub operated-requires-clause-leaves : goal.operated-requires-clause-leaves
operated-requires-clause-leaves c = row_edge c.args.graph.now (state_in c.args.circuit.now c.args.state []) c.well_formed-2.ensures c.requires.inner c.outgoing.result.now c.outgoing.ensures 0 c.edge_of-edge.result.now (omega arith) c.edge_of-edge.ensures

pub operated-requires-clause-room : goal.operated-requires-clause-room
operated-requires-clause-room c =
    let l = row_edge c.args.graph.now (state_in c.args.circuit.now c.args.state []) c.well_formed-2.ensures c.requires.inner c.outgoing.result.now c.outgoing.ensures 0 c.edge_of-edge.result.now (omega arith) c.edge_of-edge.ensures in
    omega (arith, edge_weighs c.args.graph.now c.args.state.node _ c.edge_of-edge.result.now c.edge_of-edge.ensures l.1)

pub guarded-requires-clause-yes : goal.guarded-requires-clause-yes
guarded-requires-clause-yes c = row_leaves c.args.graph.now (state_in c.args.circuit.now c.args.state []) c.well_formed-2.ensures c.requires.inner c.outgoing.result.now c.outgoing.ensures 0 (omega arith)

pub guarded-requires-clause-no : goal.guarded-requires-clause-no
guarded-requires-clause-no c = row_leaves c.args.graph.now (state_in c.args.circuit.now c.args.state []) c.well_formed-2.ensures c.requires.inner c.outgoing.result.now c.outgoing.ensures 1 (omega arith)

pub guarded-requires-clause-guards : goal.guarded-requires-clause-guards
guarded-requires-clause-guards c =
    row_guards c.args.graph.now c.outgoing.result.now
    (row_continues c.args.graph.now (state_in c.args.circuit.now c.args.state []) c.well_formed-2.ensures c.requires.inner c.outgoing.result.now c.outgoing.ensures (node_there c.args.graph.now (state_in c.args.circuit.now c.args.state []) c.well_formed-2.ensures (c.requires.states []))) (omega arith)

pub returns-in-empty-clause-step : goal.returns-in-empty-clause-step
returns-in-empty-clause-step c =
    absurd (row_some c.args.graph.now c.outgoing.result.now
    (row_continues c.args.graph.now (state_in c.args.circuit.now c.args.state []) c.well_formed-2.ensures c.requires.inner c.outgoing.result.now c.outgoing.ensures (node_there c.args.graph.now (state_in c.args.circuit.now c.args.state []) c.well_formed-2.ensures (c.requires.states []))) (omega arith))

pub returns-in-len1-clause-grows : goal.returns-in-len1-clause-grows
returns-in-len1-clause-grows c =
    let l = row_edge c.args.graph.now (state_in c.args.circuit.now c.args.state []) c.well_formed-2.ensures c.requires.inner c.outgoing.result.now c.outgoing.ensures 0 c.edge_of-edge.result.now (omega arith) c.edge_of-edge.ensures in
    grows_within _ c.operated.ensures.grows (omega (arith, edge_weighs c.args.graph.now c.args.state.node _ c.edge_of-edge.result.now c.edge_of-edge.ensures l.1))

pub returns-in-len1-clause-step : goal.returns-in-len1-clause-step
returns-in-len1-clause-step c =
    let parts = c.args.graph.now in
    let row = c.outgoing.result.now in
    let e = c.edge_of-edge.result.now in
    IfOk-weaker c.operated.result _ _ (λ t is.
    let P : (Input → State → Stepped) → Type 0 = λ next. IsStep parts c.args.circuit.now c.operated.new.circuit c.args.answers.now c.args.state next t in
    let same : (λ (input : Input) (x : State). operated parts input x (get_or row 0 0) e e.operation) ≡ (λ (input : Input) (x : State). onward parts input x (outgoing_of parts c.args.state.node)) =
    λ i input x. (sym (onward_one parts input x row e (omega arith) (omega arith) c.edge_of-edge.ensures) ∙ ap (onward parts input x) c.outgoing.ensures) i in
    subst P same is) c.operated.ensures.step

pub returns-in-len2-up-clause-step : goal.returns-in-len2-up-clause-step
returns-in-len2-up-clause-step c =
    let parts = c.args.graph.now in
    let row = c.outgoing.result.now in
    IfOk-weaker c.guarded.result _ _ (λ t is.
    let P : (Input → State → Stepped) → Type 0 = λ next. IsStep parts c.args.circuit.now c.guarded.new.circuit c.args.answers.now c.args.state next t in
    let same : (λ (input : Input) (x : State). picked parts input x (get_or row 0 0) (get_or row 1 0) (slice_get parts.edges (get_or row 0 0))) ≡ (λ (input : Input) (x : State). onward parts input x (outgoing_of parts c.args.state.node)) =
    λ i input x. (sym (row_two parts input x row (omega arith)) ∙ ap (onward parts input x) c.outgoing.ensures) i in
    subst P same is) c.guarded.ensures.step
