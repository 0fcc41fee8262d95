use Rattle.std.proofs.Common.{◌+◌, sym, ap, subst, ◌∙◌, arith}
use Rattle.std.specs.Prelude.{IsTrue, slice_get}
use Rattle.std.proofs.lemmas.Option.{same_Some, slice_get_within}
use Rattle.cfa.specs.declared.parts.Edge.{Edge}
use Rattle.cfa.specs.Graph.{dest_fits}
use Rattle.cfa.specs.States.{IsState}
use Rattle.c_meaning.specs.Places.{storage_of}
use Rattle.c_meaning.specs.Steps.{popped}
use Rattle.c_meaning.proofs.Leaving.{returns_of, returned_state, returned_dest}
use Rattle.c_meaning.proofs.stepping.back.Goals as goal

pub edge_of-edge-requires : goal.edge_of-edge-requires
edge_of-edge-requires c =
    let r = returns_of c.args.graph.now c.args.state.now c.well_formed-2.ensures c.requires.state c.requires.many in
    let call = same_Some r.call c.args.call (sym r.call_is ∙ c.requires.from) in
    let within = slice_get_within c.args.graph.now.edges (r.call + 1) r.edge r.edge_is in
    omega (arith, call, within)

pub returned-requires-clause-below : goal.returned-requires-clause-below
returned-requires-clause-below c =
    let s = c.args.state.now in
    let r = returns_of c.args.graph.now s c.well_formed-2.ensures c.requires.state c.requires.many in
    let call = same_Some r.call c.args.call (sym r.call_is ∙ c.requires.from) in
    let edge = same_Some r.edge c.edge_of-edge.result.now (sym r.edge_is ∙ ap (λ n. slice_get c.args.graph.now.edges (n + 1)) call ∙ c.edge_of-edge.ensures) in
    subst (λ (e : Edge). IsState c.args.graph.now (record (popped s) { node = e.target })) edge (returned_state c.args.graph.now s c.well_formed-2.ensures c.requires.state r s.taken)

pub returned-requires-clause-dest : goal.returned-requires-clause-dest
returned-requires-clause-dest c =
    let s = c.args.state.now in
    let r = returns_of c.args.graph.now s c.well_formed-2.ensures c.requires.state c.requires.many in
    let call = same_Some r.call c.args.call (sym r.call_is ∙ c.requires.from) in
    let edge = same_Some r.edge c.edge_of-edge.result.now (sym r.edge_is ∙ ap (λ n. slice_get c.args.graph.now.edges (n + 1)) call ∙ c.edge_of-edge.ensures) in
    subst (λ (e : Edge). IsTrue (dest_fits (storage_of c.args.graph.now (record (popped s) { node = e.target })).room c.in-Return.dest)) edge (returned_dest c.args.graph.now s c.well_formed-2.ensures c.requires.state r c.in-Return.dest s.taken c.in-Return.call (ap (λ (e : Edge). e.operation) edge ∙ c.in-Return.is))
