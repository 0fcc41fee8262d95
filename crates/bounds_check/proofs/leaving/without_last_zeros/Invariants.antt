use Rattle.std.proofs.Common.{vec_len}
use Rattle.bounds_check.proofs.Cutting.{IsSoFar}
use Rattle.bounds_check.proofs.leaving.without_last_zeros.Given as goal

abbrev pub invariant-loop-kept : goal.invariant-loop-kept
invariant-loop-kept l = IsSoFar l.fn.numbers l.kept.items

abbrev pub decreases-loop-kept : goal.decreases-loop-kept
decreases-loop-kept l = vec_len l.kept
