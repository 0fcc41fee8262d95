use Rattle.std.proofs.Common.{[], ◌+◌, arith}
use Rattle.std.proofs.lemmas.Option.{slice_get_within}
use Rattle.bit_words.proofs.Steps.{grows_within}
use Rattle.sym_expr.specs.sym_steps.Steps.{state_in}
use Rattle.sym_expr.proofs.sym_steps.ReturnLemmas.{back_edge, back_returns, return_form, return_gives, return_weighs}
use Rattle.sym_expr.proofs.sym_steps.stepping.back.Goals as goal

pub edge_of-edge-requires : goal.edge_of-edge-requires
edge_of-edge-requires c = slice_get_within c.args.graph.now.edges (c.args.call + 1) _ (back_edge c.args.graph.now (state_in c.args.circuit.now c.args.state []) c.well_formed-2.ensures (c.requires.states []) c.requires.many c.args.function.now c.requires.own c.requires.exit c.args.call c.requires.from)

pub returned-requires-clause-gives : goal.returned-requires-clause-gives
returned-requires-clause-gives c = return_gives c.edge_of-edge.result.now.operation c.in-Return.call c.args.call c.in-Return.dest c.in-Return.is (back_returns c.args.graph.now (state_in c.args.circuit.now c.args.state []) c.well_formed-2.ensures (c.requires.states []) c.requires.many c.args.function.now c.requires.own c.requires.exit c.args.call c.requires.from c.edge_of-edge.result.now c.edge_of-edge.ensures)

pub returned-requires-clause-room : goal.returned-requires-clause-room
returned-requires-clause-room c = omega (arith, return_weighs c.args.graph.now (state_in c.args.circuit.now c.args.state []) c.well_formed-2.ensures (c.requires.states []) c.requires.many c.args.function.now c.requires.own c.requires.exit c.args.call c.requires.from c.edge_of-edge.result.now c.in-Return.call c.in-Return.dest c.edge_of-edge.ensures c.in-Return.is)

pub returns-in-Return-clause-grows : goal.returns-in-Return-clause-grows
returns-in-Return-clause-grows c = grows_within _ c.returned.ensures.grows (omega (arith, return_weighs c.args.graph.now (state_in c.args.circuit.now c.args.state []) c.well_formed-2.ensures (c.requires.states []) c.requires.many c.args.function.now c.requires.own c.requires.exit c.args.call c.requires.from c.edge_of-edge.result.now c.in-Return.call c.in-Return.dest c.edge_of-edge.ensures c.in-Return.is))

pub returns-in_default : goal.returns-in_default
returns-in_default c =
    let form = return_form c.edge_of-edge.result.now.operation c.args.call (back_returns c.args.graph.now (state_in c.args.circuit.now c.args.state []) c.well_formed-2.ensures (c.requires.states []) c.requires.many c.args.function.now c.requires.own c.requires.exit c.args.call c.requires.from c.edge_of-edge.result.now c.edge_of-edge.ensures) in
    absurd (c.in_default.not-Return _ _ form.1)
