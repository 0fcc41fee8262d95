use Rattle.std.proofs.Common.{◌≡◌, ◌++◌}
use Rattle.c_lower.proofs.operands.joined.Given as goal

abbrev pub invariant-loop-name : goal.invariant-loop-name
invariant-loop-name l = l.all ≡ l.initial.all ++ l.yielded
