use Rattle.std.proofs.Common.{drop}
use Rattle.suite.specs.candidates.Standing.{IsOnWay}
use Rattle.suite.proofs.candidates.within.is_within.Given as goal

abbrev pub invariant-loop-at : goal.invariant-loop-at
invariant-loop-at l = IsOnWay l.graph l.bounds l.function l.edges (drop l.at-index l.edges) l.standing
