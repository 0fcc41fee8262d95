use Rattle.c_lower.proofs.UnitLaws.{functions_more}
use Rattle.c_lower.proofs.units.functions_of.Goals as goal

pub loop-i-preserved : goal.loop-i-preserved
loop-i-preserved c =
    functions_more c.args.functions.now c.loop-i.i c.index-functions-i.result c.in_ok-function_of.field-0 c.loop-i.all c.push.new.self c.loop-i-test.true c.index-functions-i.is c.in_ok-function_of.ensures c.in_ok-push.ensures.ok c.loop-i.invariant
