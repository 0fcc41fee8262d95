use Rattle.std.proofs.Common.{[], arith}
use Rattle.bit_words.proofs.Steps.{grows_within}
use Rattle.sym_expr.specs.sym_steps.Steps.{state_in}
use Rattle.sym_expr.proofs.sym_steps.NodeLemmas.{guard_weighs, source_is}
use Rattle.sym_expr.proofs.sym_steps.stepping.guarded.Goals as goal

pub picked-requires-clause-room : goal.picked-requires-clause-room
picked-requires-clause-room c =
    let parts = c.args.graph.now in
    let source = source_is parts (state_in c.args.circuit.now c.args.state []) c.args.yes_at c.edge_of.result.now c.requires.yes c.edge_of.ensures in
    let most = guard_weighs parts c.args.state.node c.args.yes_at c.args.no_at c.edge_of.result.now c.in-Guard.test c.in-Guard.truth c.edge_of.ensures source c.in-Guard.is c.requires.guards in
    omega arith

pub returns-in-Guard-clause-grows : goal.returns-in-Guard-clause-grows
returns-in-Guard-clause-grows c =
    let parts = c.args.graph.now in
    let source = source_is parts (state_in c.args.circuit.now c.args.state []) c.args.yes_at c.edge_of.result.now c.requires.yes c.edge_of.ensures in
    let most = guard_weighs parts c.args.state.node c.args.yes_at c.args.no_at c.edge_of.result.now c.in-Guard.test c.in-Guard.truth c.edge_of.ensures source c.in-Guard.is c.requires.guards in
    grows_within _ c.picked.ensures.grows (omega arith)
