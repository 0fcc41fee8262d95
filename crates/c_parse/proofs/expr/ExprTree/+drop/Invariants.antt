use Rattle.std.proofs.Common.{◌≤◌}
use Rattle.c_parse.specs.declared.expr.ExprTree.{size-ExprTree}
use Rattle.c_parse.proofs.expr.ExprTree.+drop.Given as goal

abbrev pub decreases-drop : goal.decreases-drop
decreases-drop l = goal.size-drop l

abbrev pub invariant-parts : goal.invariant-parts
invariant-parts l = size-ExprTree l.self ≤ size-ExprTree l.initial.self
