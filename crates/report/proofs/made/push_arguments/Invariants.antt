use Rattle.std.proofs.Common.{◌≡◌, ◌++◌, drop}
use Rattle.report.specs.Made.{arguments_text}
use Rattle.report.proofs.made.push_arguments.Given as goal

abbrev pub invariant-loop-place : goal.invariant-loop-place
invariant-loop-place l =
    l.text.items ++ arguments_text (drop l.place l.words) (drop l.place l.kinds) ≡ l.initial.text.items ++ arguments_text l.words l.kinds
