use Rattle.std.proofs.Common.{◌≤◌}
use Rattle.c_typed_trees.specs.declared.expression.TypedExpr.{size-TypedExpr}
use Rattle.c_typed_trees.proofs.+drop_expression.Given as goal

abbrev pub invariant-expression::TypedExpr::drop-parts : goal.invariant-expression::TypedExpr::drop-parts
invariant-expression::TypedExpr::drop-parts l = size-TypedExpr l.self ≤ size-TypedExpr l.initial.self
