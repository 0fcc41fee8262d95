use Rattle.std.proofs.Common.{arith, subst}
use Rattle.bit_words.proofs.Steps.{grows_then, grows_within}
use Rattle.unwinder.specs.Meeting.{IsMet}
use Rattle.unwinder.proofs.ClosedLaws.{closed_place_is, never_closed, never_met}
use Rattle.unwinder.proofs.taking.taken.Goals as goal

pub returns-in-None-clause-place : goal.returns-in-None-clause-place
returns-in-None-clause-place c =
    let met = subst (IsMet c.args.graph.now c.args.entry c.args.pair.now c.args.circuit.now c.gathered.new.circuit c.args.row.now) c.in-None.is c.in_ok-gathered.ensures.met in
    closed_place_is c.args.graph.now c.args.predicates.now c.args.entry c.args.ends c.args.answers.now c.args.circuit.now c.gathered.new.circuit c.args.row.now c.args.pair.now c.args.steps.now c.node.result c.len-count.result c.in_ok-closed_place-in-None.field-0 c.node.ensures c.len-count.ensures
    (never_closed c.args.circuit.now c.args.row.now met.1) c.in_ok-closed_place-in-None.ensures

pub returns-then-is_known_no-clause-place : goal.returns-then-is_known_no-clause-place
returns-then-is_known_no-clause-place c =
    let met = subst (IsMet c.args.graph.now c.args.entry c.args.pair.now c.args.circuit.now c.gathered.new.circuit c.args.row.now) c.in-Some.is c.in_ok-gathered.ensures.met in
    closed_place_is c.args.graph.now c.args.predicates.now c.args.entry c.args.ends c.args.answers.now c.args.circuit.now c.gathered.new.circuit c.args.row.now c.args.pair.now c.args.steps.now c.node-then-is_known_no.result c.len-count.result c.in_ok-closed_place.field-0 c.node-then-is_known_no.ensures c.len-count.ensures
    (never_met c.args.graph.now c.args.entry c.args.pair.now c.args.circuit.now c.gathered.new.circuit c.args.row.now c.in-Some.met met (c.is_known_no.ensures c.if-is_known_no.true)) c.in_ok-closed_place.ensures

pub returns-in_err-place-clause-grows : goal.returns-in_err-place-clause-grows
returns-in_err-place-clause-grows c = grows_within _ (grows_then c.gathered.ensures.grows c.open_place.ensures.grows) (omega arith)

pub returns-clause-grows : goal.returns-clause-grows
returns-clause-grows c = grows_within _ (grows_then c.gathered.ensures.grows c.open_place.ensures.grows) (omega arith)

pub returns-clause-place : goal.returns-clause-place
returns-clause-place c =
    let met = subst (IsMet c.args.graph.now c.args.entry c.args.pair.now c.args.circuit.now c.gathered.new.circuit c.args.row.now) c.in-Some.is c.in_ok-gathered.ensures.met in
    c.in_ok-place.ensures.place c.args.circuit.now _ c.gathered.ensures.grows c.requires.answers met
