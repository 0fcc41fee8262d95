use Rattle.filters_paths.proofs.SearchLaws.{row_within}
use Rattle.filters_paths.specs.Ground.{parts_of}
use Rattle.filters_paths.proofs.totals.total_at.Goals as goal

pub by_edge-requires-clause-edge : goal.by_edge-requires-clause-edge
by_edge-requires-clause-edge c = row_within (parts_of c.args.ground.now) c.args.node c.loop-edge.edge-index c.outgoing-edge-items.result.now c.outgoing-edge-items.ensures c.loop-edge-test.true
