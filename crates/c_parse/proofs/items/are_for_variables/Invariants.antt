use Rattle.std.proofs.Common.{◌≡◌, drop}
use Rattle.c_parse.specs.ReadingItems.{for_variables}
use Rattle.c_parse.proofs.items.are_for_variables.Given as goal

abbrev pub invariant-loop-token : goal.invariant-loop-token
invariant-loop-token l = for_variables (drop l.token-index l.tokens) ≡ for_variables l.tokens
