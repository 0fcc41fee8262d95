use Rattle.std.proofs.Common.{◌≡◌, length}
use Rattle.c_parse.specs.ReadingStatements.{past_consts}
use Rattle.c_parse.proofs.declarations.after_consts.Given as goal

abbrev pub invariant-loop-rest : goal.invariant-loop-rest
invariant-loop-rest l = past_consts l.rest ≡ past_consts l.tokens

abbrev pub decreases-loop-rest : goal.decreases-loop-rest
decreases-loop-rest l = length l.rest
