use Rattle.c_types.proofs.FunctionLaws.{taken_end, taken_more}
use Rattle.c_types.proofs.functions.taken.Goals as goal

pub loop-variable-preserved : goal.loop-variable-preserved
loop-variable-preserved c =
    taken_more c.args.variables.now c.loop-variable.variable-index c.loop-variable.list c.push.new.self c.variable-item.result c.loop-variable-test.true c.variable-item.is c.in_ok-push.ensures.ok c.loop-variable.invariant

pub returns : goal.returns
returns c = taken_end c.args.variables.now c.loop-variable.variable-index c.loop-variable.list c.loop-variable-test.false c.loop-variable.invariant
