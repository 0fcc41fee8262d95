use Rattle.std.proofs.Common.{◌≡◌, ◌+◌, ◌++◌, drop}
use Rattle.report.specs.Made.{made_lines}
use Rattle.report.proofs.made.push_made_lines.Given as goal

abbrev pub invariant-loop-place : goal.invariant-loop-place
invariant-loop-place l =
    l.text.items ++ made_lines l.kinds (l.place + 1) (drop l.place l.inputs) (drop l.place l.taken)
    ≡ l.initial.text.items ++ made_lines l.kinds 1 l.inputs l.taken
