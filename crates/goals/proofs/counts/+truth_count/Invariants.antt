use Rattle.std.proofs.Common.{length}
use Rattle.goals.proofs.counts.+truth_count.Given as goal

abbrev pub decreases-truth_count : goal.decreases-truth_count
decreases-truth_count l = length l.predicates.now
