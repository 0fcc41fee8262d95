use Rattle.std.proofs.Common.{◌≡◌, length}
use Rattle.c_parse.specs.ReadingItems.{past_before}
use Rattle.c_parse.proofs.items.after_words.Given as goal

abbrev pub invariant-loop-rest : goal.invariant-loop-rest
invariant-loop-rest l = past_before l.rest ≡ past_before l.tokens

abbrev pub decreases-loop-rest : goal.decreases-loop-rest
decreases-loop-rest l = length l.rest
