use Rattle.std.proofs.Common.{◌≡◌, ◌++◌}
use Rattle.goals.proofs.words.joined.Given as goal

abbrev pub invariant-loop-word : goal.invariant-loop-word
invariant-loop-word l = l.words ≡ l.initial.words ++ l.yielded
