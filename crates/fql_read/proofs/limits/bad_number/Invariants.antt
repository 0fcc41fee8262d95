use Rattle.std.proofs.Common.{◌≡◌, drop}
use Rattle.fql_read.specs.QueryLimits.{first_outside, bad_number}
use Rattle.fql_read.proofs.limits.bad_number.Given as goal

abbrev pub invariant-loop-token : goal.invariant-loop-token
invariant-loop-token l = first_outside l.bounds (drop l.token-index l.tokens) ≡ bad_number l.tokens
