use Rattle.std.proofs.Common.{◌+◌, ◌*◌}
use Rattle.fql_read.proofs.splits.+split.Given as goal

abbrev pub decreases-split : goal.decreases-split
decreases-split l = 2 * l.depth

abbrev pub decreases-behind_pred : goal.decreases-behind_pred
decreases-behind_pred l = 2 * l.depth + 1
