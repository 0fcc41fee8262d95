use Rattle.std.proofs.Common.{◌≤◌}
use Rattle.c_typed_trees.specs.declared.statement.TypedStatement.{size-TypedStatement}
use Rattle.c_typed_trees.proofs.+drop.Given as goal

abbrev pub invariant-statement::TypedStatement::drop-parts : goal.invariant-statement::TypedStatement::drop-parts
invariant-statement::TypedStatement::drop-parts l = size-TypedStatement l.self ≤ size-TypedStatement l.initial.self
