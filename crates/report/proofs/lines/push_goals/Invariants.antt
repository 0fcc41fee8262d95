use Rattle.std.proofs.Common.{◌≡◌, ◌+◌, ◌++◌, drop}
use Rattle.report.specs.Texts.{goal_lines}
use Rattle.report.proofs.lines.push_goals.Given as goal

abbrev pub invariant-loop-place : goal.invariant-loop-place
invariant-loop-place l =
    l.text.items ++ goal_lines l.graph l.plan (l.place + 1) (drop l.place l.answers) (drop l.place l.goals)
    ≡ l.initial.text.items ++ goal_lines l.graph l.plan 1 l.answers l.goals
