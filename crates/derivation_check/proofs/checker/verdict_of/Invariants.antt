use Rattle.std.proofs.Common.{ℕ, ◌<◌}
use Rattle.cnf.specs.Checks.{IsRightAt}
use Rattle.cnf.specs.literal_marks.Marks.{IsClear}
use Rattle.derivation_check.proofs.checker.verdict_of.Given as goal

abbrev pub invariant-loop-at : goal.invariant-loop-at
invariant-loop-at l = record {
  clear : IsClear l.places l.marks;
  right : (k : ℕ) → k < l.at → IsRightAt l.formula l.derivation k;
}
