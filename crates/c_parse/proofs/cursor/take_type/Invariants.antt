use Rattle.std.proofs.Common.{◌≡◌, ◌++◌, length}
use Rattle.c_parse.specs.Reading.{words_of, past_words}
use Rattle.c_parse.proofs.cursor.take_type.Given as goal

abbrev pub invariant-loop-word : goal.invariant-loop-word
invariant-loop-word l = (l.words.items ++ words_of l.rest ≡ words_of l.tokens) × (past_words l.rest ≡ past_words l.tokens)

abbrev pub decreases-loop-word : goal.decreases-loop-word
decreases-loop-word l = length l.rest
