use Rattle.std.proofs.Common.{◌≡◌, ◌≤◌}
use Rattle.c_parse.specs.declared.expr.ExprTree.{size-ExprTree}
use Rattle.c_parse.specs.SequencePoints.{has_sequence_point}
use Rattle.c_parse.proofs.expr.ExprTree.+has_sequence_point.Given as goal

abbrev pub decreases-has_sequence_point : goal.decreases-has_sequence_point
decreases-has_sequence_point l = goal.size-has_sequence_point l

abbrev pub invariant-loop-tree : goal.invariant-loop-tree
invariant-loop-tree l = record {
  no_deeper : size-ExprTree l.tree ≤ size-ExprTree l.initial.self;
  same : has_sequence_point l.tree ≡ has_sequence_point l.initial.self;
}
