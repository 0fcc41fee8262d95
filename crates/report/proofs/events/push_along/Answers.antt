use Rattle.std.proofs.Common.{◌∙◌}
use Rattle.report.proofs.EventLines.{told_more}
use Rattle.report.proofs.events.push_along.Goals as goal

pub loop-edge-preserved : goal.loop-edge-preserved
loop-edge-preserved c =
    told_more c.args.graph.now c.args.edges.now c.loop-edge.edge-index _ c.loop-edge.text.items c.loop-edge.entered.items c.push_told.new.text.items c.push_told.new.entered.items
    c.loop-edge-test.true c.in_ok-push_told.ensures.text c.in_ok-push_told.ensures.entered
    ∙ c.loop-edge.invariant
