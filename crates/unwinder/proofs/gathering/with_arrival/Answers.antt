use Rattle.unwinder.proofs.Meetings.{gathers_first, gathers_more, meets_closed}
use Rattle.unwinder.proofs.gathering.with_arrival.Goals as goal

pub returns-in-None-clause-gathers : goal.returns-in-None-clause-gathers
returns-in-None-clause-gathers c = λ old row most g each h met. meets_closed c.args.graph.now c.args.entry c.args.pair.now old c.args.circuit.now row c.args.arrival.now c.args.met c.in-None.is h met

pub returns-in_ok-state-in-None-met-clause-gathers : goal.returns-in_ok-state-in-None-met-clause-gathers
returns-in_ok-state-in-None-met-clause-gathers c = gathers_first c.args.graph.now c.args.entry c.args.pair.now c.args.circuit.now c.args.met c.args.arrival.now c.in-Some.state c.in_ok-state-in-None-met.state c.in-None-met.is c.in-Some.is c.in_ok-state-in-None-met.ensures

pub returns-in_ok-met-in-Some-met-clause-gathers : goal.returns-in_ok-met-in-Some-met-clause-gathers
returns-in_ok-met-in-Some-met-clause-gathers c =
    let e = c.in_ok-met-in-Some-met.ensures in
    gathers_more c.args.graph.now c.args.entry c.args.pair.now c.args.circuit.now c.joined.new.circuit _ c.args.met c.args.arrival.now c.in-Some.state c.in-Some-met.met c.in_ok-met-in-Some-met.met c.well_formed-2.ensures c.in-Some-met.is c.in-Some.is c.joined.ensures.grows
    e.guard e.wires e.count e.kept e.meets e.value
