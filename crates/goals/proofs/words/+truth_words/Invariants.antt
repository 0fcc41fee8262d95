use Rattle.std.proofs.Common.{length}
use Rattle.goals.proofs.words.+truth_words.Given as goal

abbrev pub decreases-truth_words : goal.decreases-truth_words
decreases-truth_words l = length l.predicates.now
