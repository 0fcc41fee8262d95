use Rattle.std.proofs.Common.{◌≡◌, ◌≤◌, length}
use Rattle.report.specs.Least.{without_last_zeros}
use Rattle.report.proofs.least.without_last_zeros.Given as goal

abbrev pub invariant-loop-kept : goal.invariant-loop-kept
invariant-loop-kept l = (without_last_zeros l.kept ≡ without_last_zeros l.numbers) × (length l.kept ≤ length l.numbers)

abbrev pub decreases-loop-kept : goal.decreases-loop-kept
decreases-loop-kept l = length l.kept
