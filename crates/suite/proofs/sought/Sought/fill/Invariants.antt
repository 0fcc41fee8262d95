use Rattle.std.proofs.Common.{◌≡◌}
use Rattle.suite.specs.Standing.{IsSought}
use Rattle.suite.proofs.sought.Sought.fill.Given as goal

abbrev pub invariant-candidates : goal.invariant-candidates
invariant-candidates l = record {
  is : IsSought l.self-inside.goal l.self-inside.unwound l.self-inside.pool l.self-inside.lessons;
  same : record { goal = l.self-inside.goal; pairs = l.self-inside.unwound.pairs } ≡ l.fn.self;
}
