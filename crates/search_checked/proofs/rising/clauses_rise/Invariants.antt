use Rattle.std.proofs.Common.{All, take}
use Rattle.cnf.specs.Clauses.{IsClause}
use Rattle.search_checked.proofs.rising.clauses_rise.Given as goal

abbrev pub invariant-loop-clause : goal.invariant-loop-clause
invariant-loop-clause l = All IsClause (take l.clause-index l.clauses)
