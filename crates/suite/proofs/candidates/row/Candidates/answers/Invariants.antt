use Rattle.std.proofs.Common.{◌≤◌, length}
use Rattle.suite.proofs.candidates.row.Candidates.answers.Given as goal

abbrev pub invariant-loop-slot : goal.invariant-loop-slot
invariant-loop-slot l = length l.answers ≤ l.slot
