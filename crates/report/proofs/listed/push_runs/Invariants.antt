use Rattle.std.proofs.Common.{◌≡◌, ◌+◌, ◌++◌, drop}
use Rattle.report.specs.Texts.{run_lines}
use Rattle.report.proofs.listed.push_runs.Given as goal

abbrev pub invariant-loop-place : goal.invariant-loop-place
invariant-loop-place l =
    l.text.items ++ run_lines l.kind (l.place + 1) (drop l.place l.runs) ≡ l.initial.text.items ++ run_lines l.kind 1 l.runs
