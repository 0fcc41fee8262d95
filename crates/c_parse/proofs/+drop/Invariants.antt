use Rattle.std.proofs.Common.{◌≤◌}
use Rattle.c_parse.specs.declared.statement.Statement.{size-Statement}
use Rattle.c_parse.proofs.+drop.Given as goal

abbrev pub invariant-statement::Statement::drop-parts : goal.invariant-statement::Statement::drop-parts
invariant-statement::Statement::drop-parts l = size-Statement l.self ≤ size-Statement l.initial.self
