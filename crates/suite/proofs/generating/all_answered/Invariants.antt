use Rattle.std.proofs.Common.{◌≡◌, length}
use Rattle.measurer.specs.Measurers.{IsMadeFor}
use Rattle.suite.specs.Progress.{so_far}
use Rattle.suite.specs.Seeking.{AreAnsweredOf, IsOfSame}
use Rattle.suite.proofs.generating.all_answered.Given as goal

abbrev pub invariant-loop-place : goal.invariant-loop-place
invariant-loop-place g l = record {
  same : IsOfSame l.fn.sought l.sought;
  plan : IsMadeFor l.fn.sought.goal.given.now.planned.plan l.making.measurer;
  count : length l.making.answers ≡ l.place;
  answered : AreAnsweredOf l.fn.sought.goal.given.now l.budget (so_far l.making) (g.W.Watch.seen l.fn.watch) (g.W.Watch.seen l.watch);
}
