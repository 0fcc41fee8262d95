use Rattle.std.proofs.Common.{◌≡◌, ◌++◌, drop}
use Rattle.trace_file.specs.Written.{arguments_text}
use Rattle.trace_file.proofs.written.push_arguments.Given as goal

abbrev pub invariant-loop-place : goal.invariant-loop-place
invariant-loop-place l =
    l.text.items ++ arguments_text (drop l.place l.words) (drop l.place l.kinds) ≡ l.initial.text.items ++ arguments_text l.words l.kinds
