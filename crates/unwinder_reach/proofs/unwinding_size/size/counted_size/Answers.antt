use Rattle.std.proofs.Common.{◌<◌, length, ap, ◌∙◌, arith}
use Rattle.std.proofs.lemmas.List.{take_all}
use Rattle.unwinder_reach.specs.unwinding_size.Capped.{capped}
use Rattle.unwinder_reach.specs.unwinding_size.Sizes.{pairs_weight}
use Rattle.unwinder_reach.proofs.unwinding_size.PairLaws.{pairs_more}
use Rattle.unwinder_reach.proofs.unwinding_size.size.counted_size.Goals as goal

pub loop-at-preserved : goal.loop-at-preserved
loop-at-preserved c =
    let long = ap length c.as_slice-pair-items.ensures in
    let inside : c.loop-at.at < length c.args.reached.now.pairs = omega arith in
    let own = c.pair_weight.ensures c.args.predicates.now (length c.args.reached.now.pairs) c.args.reached.now.steps c.in_ok-tables.ensures inside in
    pairs_more c.args.graph.now c.args.predicates.now c.args.first.now c.args.reached.now.steps c.as_slice-pair-items.result.now c.loop-at.at c.pair-item.result c.loop-at.total c.pair_weight.result c.sum-total.result c.loop-at-test.true c.pair-item.is
    c.loop-at.invariant own c.sum-total.ensures

pub returns : goal.returns
returns c =
    c.loop-at.invariant
    ∙ ap (λ ps. capped (pairs_weight c.args.graph.now c.args.predicates.now c.args.first.now c.args.reached.now.steps 0 ps)) (take_all c.loop-at.at c.as_slice-pair-items.result.now c.loop-at-test.false ∙ c.as_slice-pair-items.ensures)
