use Rattle.std.proofs.Common.{◌≡◌, ◌≤◌, length, drop}
use Rattle.c_types.specs.Scoped.{names_in}
use Rattle.c_types.proofs.scoped.names_in.Given as goal

abbrev pub invariant-loop-left : goal.invariant-loop-left
invariant-loop-left l = record {
  within : l.left ≤ length l.variables;
  same : l.names ≡ names_in (drop l.left l.variables);
}

abbrev pub decreases-loop-left : goal.decreases-loop-left
decreases-loop-left l = l.left
