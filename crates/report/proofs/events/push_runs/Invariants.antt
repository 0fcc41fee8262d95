use Rattle.std.proofs.Common.{◌≡◌, ◌+◌, ◌++◌, drop, map}
use Rattle.report.specs.EventsText.{told_lines, told_run}
use Rattle.report.proofs.events.push_runs.Given as goal

abbrev pub invariant-loop-place : goal.invariant-loop-place
invariant-loop-place l =
    l.text.items ++ told_lines l.graph l.kind (l.place + 1) (map (told_run l.graph) (drop l.place l.runs))
    ≡ l.initial.text.items ++ told_lines l.graph l.kind 1 (map (told_run l.graph) l.runs)
