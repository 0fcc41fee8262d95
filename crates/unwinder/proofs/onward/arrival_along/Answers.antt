use Rattle.std.proofs.Common.{ap, refl, subst, sym, ◌∙◌, ◌&&◌}
use Rattle.circuit.specs.Wires.{lit_holds}
use Rattle.unwinder.specs.declared.arrival.Arrival.{Arrival}
use Rattle.unwinder.specs.Onward.{IsAlong}
use Rattle.unwinder.proofs.WayLaws.{along_never, along_none}
use Rattle.unwinder.proofs.onward.arrival_along.Goals as goal

pub returns-in-None-clause-along : goal.returns-in-None-clause-along
returns-in-None-clause-along c = subst (λ (a : Arrival). IsAlong c.args.graph.now c.args.circuit.now c.args.circuit.now c.args.guard c.args.ways.now c.args.behind.now c.args.edge a) (sym c.closed.ensures) (along_none c.args.graph.now c.args.circuit.now c.args.circuit.now c.args.guard c.args.ways.now c.args.behind.now c.args.edge (c.in-None.ensures.none refl))

pub returns-then-is_known_no-clause-along : goal.returns-then-is_known_no-clause-along
returns-then-is_known_no-clause-along c =
    let way = c.in-Some.ensures.some c.in-Some.taken refl in
    let P : Arrival → Type 0 = λ a. IsAlong c.args.graph.now c.args.circuit.now c.both.new.circuit c.args.guard c.args.ways.now c.args.behind.now c.args.edge a in
    subst P (sym c.closed-then-is_known_no.ensures) (along_never c.args.graph.now c.args.circuit.now c.both.new.circuit c.args.guard c.args.ways.now c.args.behind.now c.args.edge way.0 way.1 c.in_ok-both_hold.both_hold
    (λ w. c.in_ok-both_hold.ensures.value w ∙ ap (λ l. lit_holds c.args.circuit.now c.args.guard w && lit_holds c.args.circuit.now l w) (sym way.2)) (c.is_known_no.ensures c.if-is_known_no.true))
