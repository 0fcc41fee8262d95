use Rattle.std.proofs.Common.{◌≡◌, drop}
use Rattle.c_parse.specs.Limits.{first_foreign}
use Rattle.c_parse.proofs.limits.first_foreign.Given as goal

abbrev pub invariant-loop-token : goal.invariant-loop-token
invariant-loop-token l = first_foreign (drop l.token-index l.tokens) ≡ first_foreign l.tokens
