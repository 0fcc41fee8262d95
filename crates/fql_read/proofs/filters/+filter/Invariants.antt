use Rattle.std.proofs.Common.{◌+◌, ◌*◌}
use Rattle.fql_read.proofs.filters.+filter.Given as goal

abbrev pub decreases-filter : goal.decreases-filter
decreases-filter l = 4 * l.depth

abbrev pub decreases-single : goal.decreases-single
decreases-single l = 4 * l.depth + 1

abbrev pub decreases-double : goal.decreases-double
decreases-double l = 4 * l.depth + 1

abbrev pub decreases-headed : goal.decreases-headed
decreases-headed l = 4 * l.depth + 2
