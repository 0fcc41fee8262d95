use Rattle.c_lower.proofs.UnitLaws.{ends_turn}
use Rattle.c_lower.proofs.units.ends.Goals as goal

pub loop-i-preserved : goal.loop-i-preserved
loop-i-preserved c =
    ends_turn c.args.globals.now c.args.functions.now c.loop-i.i c.index-functions-i.result c.loop-i.parts c.end_node.result c.end_node-in-loop-i.result c.push.new.self c.push-in-loop-i.new.self c.in_ok-outermost.field-0 c.push-in-loop-i-2.new.self
    c.loop-i-test.true c.index-functions-i.is c.loop-i.invariant c.end_node.ensures c.end_node-in-loop-i.ensures c.in_ok-push.ensures.ok c.in_ok-push-2.ensures.ok c.in_ok-outermost.ensures c.in_ok-push-3.ensures.ok
