use Rattle.measurer_index.proofs.word_index.Absents.{more_goals, all_goals}
use Rattle.measurer_index.proofs.word_index.index.absents_of.Goals as goal

pub loop-goal-preserved : goal.loop-goal-preserved
loop-goal-preserved c =
    more_goals c.args.goals.now c.loop-goal.goal-index c.goal-item.result c.word.result.now c.loop-goal.bound c.in_ok-bound.bound c.goal-item.is c.loop-goal-test.true c.word.ensures c.loop-goal.invariant c.in_ok-bound.ensures.from c.in_ok-bound.ensures.absents

pub returns : goal.returns
returns c = all_goals c.args.goals.now c.loop-goal.goal-index c.loop-goal.bound c.loop-goal-test.false c.loop-goal.invariant
