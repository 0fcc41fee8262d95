use Rattle.cfa.proofs.Eaches.{element_at}
use Rattle.cfa.proofs.Places.{continues_tells}
use Rattle.cfa.proofs.laws.ways_on.Goals as goal

pub returns : goal.returns
returns c parts node graph within no_exit =
    let there = element_at parts.nodes node within in
    (continues_tells parts node).1 (graph.rest.ways node there.0 there.1 no_exit)
