use Rattle.measurer_index.proofs.word_index.Begun.{first_all, first_more}
use Rattle.measurer_index.proofs.word_index.tables.size.Goals as goal

pub loop-goal-preserved : goal.loop-goal-preserved
loop-goal-preserved c =
    first_more c.args.goals.now c.args.edges c.loop-goal.goal-index c.goal-item.result c.word.result.now c.loop-goal.size c.in_ok-size.size c.goal-item.is c.loop-goal-test.true c.word.ensures c.loop-goal.invariant c.in_ok-size.ensures.from c.in_ok-size.ensures.first

pub returns : goal.returns
returns c = first_all c.args.goals.now c.args.edges c.loop-goal.goal-index c.loop-goal.size c.loop-goal-test.false c.loop-goal.invariant
