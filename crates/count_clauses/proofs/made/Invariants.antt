use Rattle.std.proofs.Common.{◌≡◌}
use Rattle.count_clauses.proofs.made.Given as goal

abbrev pub invariant-loop-place : goal.invariant-loop-place
invariant-loop-place l = l.unwound ≡ l.fn.unwound
