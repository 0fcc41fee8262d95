use Rattle.unwinder_reach.specs.unwinding_size.Sizes.{store_cells}
use Rattle.unwinder_reach.proofs.unwinding_size.MergeLaws.{one_step, some_steps}
use Rattle.unwinder_reach.proofs.unwinding_size.pairs.merges_weight.Goals as goal

pub returns-then-arrivals-le1 : goal.returns-then-arrivals-le1
returns-then-arrivals-le1 c steps counted =
    one_step (store_cells c.args.graph.now c.args.first.now c.args.pair.now.context) steps c.args.arrivals counted c.if-arrivals-le1.true

pub returns : goal.returns
returns c steps counted =
    some_steps (store_cells c.args.graph.now c.args.first.now c.args.pair.now.context) steps c.args.arrivals c.store_cells.result c.product.result c.product-2.result counted c.if-arrivals-le1.false c.store_cells.ensures c.product.ensures
    c.product-2.ensures
