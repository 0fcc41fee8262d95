use Rattle.std.proofs.Common.{◌≡◌, ◌+◌, ◌++◌, drop}
use Rattle.report.specs.Texts.{input_lines}
use Rattle.report.proofs.lines.push_inputs.Given as goal

abbrev pub invariant-loop-place : goal.invariant-loop-place
invariant-loop-place l =
    l.text.items ++ input_lines l.kind (l.place + 1) (drop l.place l.ends) ≡ l.initial.text.items ++ input_lines l.kind 1 l.ends
