use Rattle.std.proofs.Common.{◌∙◌, arith}
use Rattle.cfa.specs.declared.parts.Edge.{Edge}
use Rattle.cfa.proofs.Eaches.{read_at}
use Rattle.sym_expr.specs.Weights.{operation_weight}
use Rattle.unwinder_reach.proofs.unwinding_size.SumLaws.{tally_more}
use Rattle.unwinder_reach.proofs.unwinding_size.operations.node_weights.Goals as goal

pub raise-requires : goal.raise-requires
raise-requires c =
    let there = read_at c.args.graph.now.edges c.edges-edge-items.result.now c.edges-edge-items.ensures c.loop-edge.edge-index c.edge-item.result c.loop-edge-test.true c.edge-item.is in
    let within = (c.well_formed-2.ensures.edges c.loop-edge.edge-index c.edge-item.result there).source in
    let long = c.loop-edge.invariant.0 in
    omega arith

pub loop-edge-preserved : goal.loop-edge-preserved
loop-edge-preserved c = (
  c.raise.ensures.length ∙ c.loop-edge.invariant.0,
  tally_more (λ (e : Edge). operation_weight c.args.graph.now e.operation) (λ (e : Edge). e.source) c.edges-edge-items.result.now c.loop-edge.edge-index c.edge-item.result c.operation_weight-own.result c.loop-edge.table.items
      c.raise.new.table.items c.loop-edge-test.true c.edge-item.is c.operation_weight-own.ensures c.raise.ensures.each c.loop-edge.invariant.1,
)
