use Rattle.std.proofs.Common.{Some, sym, ap, ◌∙◌, arith}
use Rattle.std.proofs.lemmas.Option.{slice_get-get_or}
use Rattle.bit_words.proofs.Steps.{grows_within}
use Rattle.unwinder.proofs.Meetings.{fewer_wires, gathered_all, gathered_grows, gathered_more, met_wired, way_wired}
use Rattle.unwinder.proofs.gathering.gathered.Goals as goal

pub with_arrival-requires-clause-met : goal.with_arrival-requires-clause-met
with_arrival-requires-clause-met c = met_wired c.args.graph.now c.args.entry c.args.pair.now c.args.circuit.now c.loop-arrival.circuit _ c.loop-arrival.met c.well_formed-2.ensures c.requires.entry c.loop-arrival.invariant.met_is

pub with_arrival-requires-clause-way : goal.with_arrival-requires-clause-way
with_arrival-requires-clause-way c = way_wired c.args.graph.now c.args.entry c.args.pair.now c.args.circuit.now c.loop-arrival.circuit _ c.arrival-item.result c.well_formed-2.ensures c.requires.entry c.loop-arrival.invariant.grows (c.requires.ways c.loop-arrival.arrival-index c.arrival-item.result (slice_get-get_or c.args.row.now c.loop-arrival.arrival-index c.arrival-item.result (omega arith) ∙ ap Some (sym c.arrival-item.is)))

pub returns-in_err-met-clause-grows : goal.returns-in_err-met-clause-grows
returns-in_err-met-clause-grows c = grows_within _ (gathered_grows c.args.graph.now c.args.entry c.args.pair.now _ _ _ _ _ _ c.loop-arrival.invariant c.with_arrival.ensures.grows c.with_arrival.ensures.free) (fewer_wires _ _ _ (omega arith))

pub loop-arrival-preserved : goal.loop-arrival-preserved
loop-arrival-preserved c = gathered_more c.args.graph.now c.args.entry c.args.pair.now _ _ _ _ _ _ _ c.arrival-item.result c.loop-arrival.invariant c.with_arrival.ensures.grows c.with_arrival.ensures.free (slice_get-get_or c.args.row.now c.loop-arrival.arrival-index c.arrival-item.result (omega arith) ∙ ap Some (sym c.arrival-item.is)) c.requires.ways c.in_ok-met.ensures.gathers

pub returns-clause-met : goal.returns-clause-met
returns-clause-met c = gathered_all c.args.graph.now c.args.entry c.args.pair.now _ _ _ _ _ c.loop-arrival.invariant (omega arith)
