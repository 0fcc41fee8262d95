use Rattle.std.proofs.Common.{◌≡◌, ◌+◌, ◌++◌, drop}
use Rattle.report.specs.Texts.{listed_lines}
use Rattle.report.proofs.listed.push_list.Given as goal

abbrev pub invariant-loop-place : goal.invariant-loop-place
invariant-loop-place l =
    l.text.items ++ listed_lines l.graph l.plan (l.place + 1) (drop l.place l.goals)
    ≡ l.initial.text.items ++ listed_lines l.graph l.plan 1 l.goals
