use Rattle.std.proofs.Common.{length, get_or, ap, arith}
use Rattle.filters_paths.proofs.CountLaws.{first_within}
use Rattle.filters_paths.proofs.totals.total_of_firsts.Goals as goal

pub by_edge-requires-clause-edge : goal.by_edge-requires-clause-edge
by_edge-requires-clause-edge c =
    let i = c.loop-edge.edge-index in
    let is = ap (λ xs. get_or xs i 0) c.deref-edge-items.ensures.value in
    let long = ap length c.deref-edge-items.ensures.value in
    let test = c.loop-edge-test.true in
    let low = first_within c.args.ground.now c.requires.ground i (omega arith) in
    omega arith
