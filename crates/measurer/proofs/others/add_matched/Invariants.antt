use Rattle.std.proofs.Common.{List, length}
use Rattle.goals.specs.GoalForm.{GoalForm}
use Rattle.measurer_index.specs.word_index.Numbers.{Adds}
use Rattle.measurer.specs.Measured.{AreMatchers}
use Rattle.measurer.proofs.Matchers.{MatchedBefore}
use Rattle.measurer.proofs.others.add_matched.Given as goal

abbrev pub invariant-loop-own : goal.invariant-loop-own
invariant-loop-own l =
    (goals : List GoalForm) → AreMatchers l.row.sets goals l.first l.last (length goals) l.matchers → Adds (MatchedBefore goals l.first l.last l.path l.matchers l.own-index) l.initial.numbers l.numbers
